use Rattle.handshake_rules.proofs.StageLaws.{form_refused, challenge_passed}
use Rattle.handshake_rules.specs.Connecting.{expect_challenge}
use Rattle.handshake_rules.specs.Endpoint.{slot_at}
use Rattle.handshake_rules.specs.Forms.{form_tests, challenge_form}
use Rattle.handshake_rules.specs.Refusals.{checked}
use native.Mathlib.Omega.{arith}
use mathlib.Core.List.{List}
use mathlib.Core.Path.{sym, ap, ◌∙◌}
use Prim.Native.Nat.{ℕ}
use Rattle.handshake_state.specs.Bytes.{endpoint_of}
use Rattle.handshake_connecting.proofs.connecting.recv_challenge.Goals as goal

pub on_challenge-requires : goal.on_challenge-requires
on_challenge-requires c = (omega (arith, challenge_passed c.peer_at.result.now c.args.body.now (sym c.check_challenge.ensures ∙ c.in-Ok.is)), c.requires)

pub returns-in-Err : goal.returns-in-Err
returns-in-Err c =
    let a = c.args in
    let g = endpoint_of a.state.now in
    let h = c.check_challenge.ensures ∙ ap (λ (n : List ℕ). checked (form_tests (challenge_form n a.body.now))) c.peer_at.ensures in
    form_refused g a.at (expect_challenge (slot_at g a.at) a.challenge a.body.now) h c.in-Err.is c.refuse.ensures a.out.now a.cookie.bytes.now
