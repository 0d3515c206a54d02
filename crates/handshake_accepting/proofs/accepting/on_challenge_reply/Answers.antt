-- The verdict on the digest is that of the slot's own challenge; where it is right, the acknowledgement is for the peer's.
use Rattle.handshake_rules.proofs.StageLaws.{settle, proven_right, proven_wrong}
use Rattle.handshake_rules.specs.Accepting.{older, expect_reply}
use Rattle.handshake_rules.specs.Plans.{ack, Act, answers, answered, refused, render, concluded, moved}
use Rattle.handshake_rules.specs.Cookie.{digest_of}
use Rattle.handshake_rules.specs.Messages.{reply_challenge, ack_message}
use Rattle.handshake_rules.specs.Endpoint.{slot_at, free_other}
use Rattle.handshake_rules.specs.State.{Endpoint}
use Rattle.handshake_rules.specs.declared.endpoint.Slot.{Slot}
use Rattle.handshake_rules.specs.declared.endpoint.Stage.TheVariants.{Connected}
use Rattle.handshake_rules.specs.declared.refusal.Refusal.TheVariants.{WrongDigest}
use Rattle.wire.proofs.RunLaws.{part_length}
use Rattle.wire.proofs.OutputLaws.{written_none}
use Rattle.wire.specs.Output.{written}
use lib.ListN.{length}
use native.Mathlib.Omega.{arith}
use mathlib.Core.List.{List}
use mathlib.Core.Path.{◌≡◌, sym, ap, ◌∙◌}
use Prim.Native.Nat.{ℕ}
use Rattle.handshake_state.specs.Bytes.{endpoint_of}
use Rattle.handshake_accepting.proofs.accepting.on_challenge_reply.Goals as goal

pub is_digest-requires : goal.is_digest-requires
is_digest-requires c = (ap length c.get_part.ensures ∙ part_length 5 16 c.args.body.now (omega (arith, c.requires.0)), c.args.cookie.short)

-- what is due where the digest is right
abbrev act : Endpoint → Slot → List ℕ → Act
act g sl b = record { slot = moved sl Connected; other = older g sl; writes = ack (reply_challenge b) }

pub returns-then-not-is_digest : goal.returns-then-not-is_digest
returns-then-not-is_digest c =
    let a = c.args in
    let k = a.cookie.bytes.now in
    let b = a.body.now in
    let sl = slot_at (endpoint_of a.state.now) a.at in
    settle (concluded k k (endpoint_of a.state.now) a.at (expect_reply (endpoint_of a.state.now) sl b).rule) (refused (endpoint_of a.state.now) a.at WrongDigest)
    (proven_wrong k k (endpoint_of a.state.now) a.at (act (endpoint_of a.state.now) sl b) c.get_part.ensures c.slot-s.ensures c.is_digest.ensures c.if-not-is_digest.true) a.out.now c.refuse.ensures (sym (written_none a.out.now))

pub returns : goal.returns
unfolding render
returns c =
    let a = c.args in
    let k = a.cookie.bytes.now in
    let b = a.body.now in
    let sl = slot_at (endpoint_of a.state.now) a.at in
    let m : c.digest-d.result ≡ digest_of (reply_challenge b) k = c.digest-d.ensures ∙ ap (λ (n : ℕ). digest_of n k) c.get.ensures in
    settle (concluded k k (endpoint_of a.state.now) a.at (expect_reply (endpoint_of a.state.now) sl b).rule) (answered (endpoint_of a.state.now) a.at (moved sl Connected) (older (endpoint_of a.state.now) sl) (ack_message (digest_of (reply_challenge b) k)))
    (proven_right k k (endpoint_of a.state.now) a.at (act (endpoint_of a.state.now) sl b) c.get_part.ensures c.slot-s.ensures c.is_digest.ensures c.if-not-is_digest.false) a.out.now
    (c.connect.ensures
    ∙ ap (answers (free_other (endpoint_of a.state.now) (older (endpoint_of a.state.now) sl)) a.at (moved sl Connected) (older (endpoint_of a.state.now) sl))
    (c.send_challenge_ack-count.ensures.value ∙ ap (λ (d : List ℕ). length (ack_message d)) m))
    (c.send_challenge_ack-count.ensures.out_after ∙ ap (λ (d : List ℕ). written (ack_message d) a.out.now) m)
