-- Each arm is its stage's function; an acknowledgement writes nothing.
use Rattle.handshake_rules.proofs.StageLaws.{settle, fit_reply, fit_challenge, fit_ack, ack_silent}
use Rattle.handshake_rules.specs.Calls.{expected}
use Rattle.handshake_rules.specs.Plans.{Done, settled, finished, stage_plan, concluded}
use Rattle.handshake_rules.specs.Cookie.{fit}
use Rattle.handshake_rules.specs.Endpoint.{slot_at}
use Rattle.handshake_rules.specs.State.{Endpoint, Told}
use Rattle.handshake_rules.specs.declared.endpoint.Stage.{Stage}
use Rattle.wire.proofs.OutputLaws.{written_none}
use Rattle.wire.specs.Output.{written}
use mathlib.Core.List.{List}
use mathlib.Core.Path.{◌≡◌, sym, ap, ◌∙◌}
use Prim.Native.Nat.{ℕ}
use Rattle.handshake_state.specs.Bytes.{endpoint_of}
use Rattle.handshake.proofs.message.by_stage.Goals as goal

pub invariant_of-recv_challenge_reply : goal.invariant_of-recv_challenge_reply
invariant_of-recv_challenge_reply c =
    let k = c.args.cookie.now in record { short = fit_reply k (ap (λ (st : Stage). fit st k k) (sym c.in-AwaitsReply.is) ∙ c.requires.0) }

pub invariant_of-recv_challenge : goal.invariant_of-recv_challenge
invariant_of-recv_challenge c =
    let k = c.args.cookie.now in record { short = fit_challenge k (ap (λ (st : Stage). fit st k k) (sym c.in-AwaitsChallenge.is) ∙ c.requires.0) }

pub invariant_of-recv_challenge_ack : goal.invariant_of-recv_challenge_ack
invariant_of-recv_challenge_ack c =
    let k = c.args.cookie.now in record { short = fit_ack k (ap (λ (st : Stage). fit st k k) (sym c.in-AwaitsAck.is) ∙ c.requires.0) }

-- what is due on the slot's stage: an arm's function does it where its stage is that one
module _ (k : List ℕ) (g : Endpoint) (s challenge : ℕ) (b out : List ℕ) where
  abbrev due : Stage → Done
  due st = concluded k k g s (stage_plan (expected g (slot_at g s) challenge b st))

  arm : {st to : Stage} → st ≡ to → {r : Told} {next : List ℕ} → r ≡ (due to).told → next ≡ written (due to).bytes out
      → (r ≡ (due st).told) × (next ≡ written (due st).bytes out)
  arm {st} {to} e = settle (due st) (due to) (ap due e) out

pub returns-in-Free : goal.returns-in-Free
unfolding expected settled finished
returns-in-Free c =
    let a = c.args in
    arm a.cookie.now (endpoint_of a.state.now) a.at a.challenge a.body.now a.out.now c.in-Free.is c.refuse.ensures (sym (written_none a.out.now))

pub returns-in-AwaitsName : goal.returns-in-AwaitsName
unfolding expected
returns-in-AwaitsName c =
    let a = c.args in
    arm a.cookie.now (endpoint_of a.state.now) a.at a.challenge a.body.now a.out.now c.in-AwaitsName.is (c.recv_name.ensures.0 a.cookie.now) (c.recv_name.ensures.1 a.cookie.now)

pub returns-in-AwaitsAlive : goal.returns-in-AwaitsAlive
unfolding expected
returns-in-AwaitsAlive c =
    let a = c.args in
    arm a.cookie.now (endpoint_of a.state.now) a.at a.challenge a.body.now a.out.now c.in-AwaitsAlive.is (c.recv_alive.ensures.0 a.cookie.now) (c.recv_alive.ensures.1 a.cookie.now)

pub returns-in-AwaitsReply : goal.returns-in-AwaitsReply
unfolding expected
returns-in-AwaitsReply c =
    let a = c.args in
    arm a.cookie.now (endpoint_of a.state.now) a.at a.challenge a.body.now a.out.now c.in-AwaitsReply.is c.recv_challenge_reply.ensures.0 c.recv_challenge_reply.ensures.1

pub returns-in-AwaitsStatus : goal.returns-in-AwaitsStatus
unfolding expected
returns-in-AwaitsStatus c =
    let a = c.args in
    arm a.cookie.now (endpoint_of a.state.now) a.at a.challenge a.body.now a.out.now c.in-AwaitsStatus.is (c.recv_status.ensures.0 a.cookie.now) (c.recv_status.ensures.1 a.cookie.now)

pub returns-in-AwaitsChallenge : goal.returns-in-AwaitsChallenge
unfolding expected
returns-in-AwaitsChallenge c =
    let a = c.args in
    arm a.cookie.now (endpoint_of a.state.now) a.at a.challenge a.body.now a.out.now c.in-AwaitsChallenge.is c.recv_challenge.ensures.0 c.recv_challenge.ensures.1

pub returns-in-AwaitsAck : goal.returns-in-AwaitsAck
unfolding expected
returns-in-AwaitsAck c =
    let a = c.args in
    let k = a.cookie.now in
    let g = endpoint_of a.state.now in
    arm k g a.at a.challenge a.body.now a.out.now c.in-AwaitsAck.is c.recv_challenge_ack.ensures
    (sym (ap (λ (bs : List ℕ). written bs a.out.now) (ack_silent k k g a.at (slot_at g a.at) a.body.now) ∙ written_none a.out.now))

pub returns-in-Connected : goal.returns-in-Connected
unfolding expected settled finished
returns-in-Connected c =
    let a = c.args in
    arm a.cookie.now (endpoint_of a.state.now) a.at a.challenge a.body.now a.out.now c.in-Connected.is c.refuse-in-Connected.ensures (sym (written_none a.out.now))
