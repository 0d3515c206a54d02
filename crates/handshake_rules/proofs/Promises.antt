-- Every claim of specs/Claims, with its proof.
use Rattle.handshake_rules.specs.Claims.{Promises}
use Rattle.handshake_rules.proofs.Secrecy.{demand3, no_secret_kept}
use Rattle.handshake_rules.proofs.Checks.{check_made}
use Rattle.handshake_rules.proofs.Connected.{only_by_digest, connected_by_digest}
use Rattle.handshake_rules.proofs.Sent.{sent_challenge, sent_reply, last_sent}
use Rattle.handshake_rules.proofs.RealDigests.{real_digests}
use Rattle.handshake_rules.proofs.Refused.{refused_quietly}
use Rattle.handshake_rules.proofs.FlagLaws.{flags_tested, one_answer, good_exactly}
use Rattle.handshake_rules.proofs.Nine.{carried_on, told_beside}
use Rattle.handshake_rules.proofs.Numbers.{given_exactly, numbers_apart}
use Rattle.handshake_rules.proofs.Kept.{kept_whole, made_fresh}
use Rattle.handshake_rules.proofs.Size.{writes_little}
use Rattle.handshake_rules.proofs.Recorded.{recorded}
use Rattle.handshake_rules.proofs.Peers.{peers_apart}
use Rattle.handshake_rules.proofs.Lasting.{lasting}
use Rattle.handshake_rules.proofs.Steps.{slot_steps}
use Rattle.handshake_rules.proofs.Freed.{freed_was_taken, stage_told, ends_told, end_exact}
use Rattle.handshake_rules.proofs.Answers.{made_unrefused, started_unrefused, arrived_unrefused, closed_unrefused, message_unrefused, answer_tells}
use Rattle.handshake_rules.proofs.ReadBack.{name_read_back, challenge_read_back, status_read_back, reply_read_back, ack_read_back, frame_splits}

pub promises : Promises
promises =
    record {
      demand3 = demand3;
      check_made = check_made;
      no_secret_kept = no_secret_kept;
      only_by_digest = only_by_digest;
      connected_by_digest = connected_by_digest;
      sent_challenge = sent_challenge;
      sent_reply = sent_reply;
      last_sent = last_sent;
      real_digests = real_digests;
      refused_quietly = refused_quietly;
      given_exactly = given_exactly;
      numbers_apart = numbers_apart;
      flags_tested = flags_tested;
      one_answer = one_answer;
      good_exactly = good_exactly;
      carried_on = carried_on;
      told_beside = told_beside;
      kept_whole = kept_whole;
      made_fresh = made_fresh;
      writes_little = writes_little;
      recorded = recorded;
      peers_apart = peers_apart;
      lasting = lasting;
      slot_steps = slot_steps;
      freed_was_taken = freed_was_taken;
      stage_told = stage_told;
      ends_told = ends_told;
      end_exact = end_exact;
      made_unrefused = made_unrefused;
      started_unrefused = started_unrefused;
      arrived_unrefused = arrived_unrefused;
      closed_unrefused = closed_unrefused;
      message_unrefused = message_unrefused;
      answer_tells = answer_tells;
      name_read_back = name_read_back;
      challenge_read_back = challenge_read_back;
      status_read_back = status_read_back;
      reply_read_back = reply_read_back;
      ack_read_back = ack_read_back;
      frame_splits = frame_splits;
    }
