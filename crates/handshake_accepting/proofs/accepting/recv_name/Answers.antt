use Rattle.handshake_rules.proofs.StageLaws.{form_refused_alike, name_passed}
use Rattle.handshake_rules.proofs.MessageLaws.{full_short}
use Rattle.handshake_rules.specs.Accepting.{expect_name}
use Rattle.handshake_rules.specs.Messages.{name_name}
use Rattle.wire.specs.Run.{part}
use lib.ListN.{length}
use native.Mathlib.Omega.{arith}
use mathlib.Core.Path.{◌≡◌, sym, ap, ◌∙◌}
use Prim.Native.Nat.{ℕ}
use Rattle.handshake_state.specs.Bytes.{endpoint_of}
use Rattle.handshake_accepting.proofs.accepting.recv_name.Goals as goal

pub invariant_of-peer : goal.invariant_of-peer
invariant_of-peer c =
    let b = c.args.body.now in
    let n : c.get_part.result.now ≡ name_name b = c.get_part.ensures ∙ ap (λ (l : ℕ). part 15 l b) c.get-len.ensures in
    let f = full_short (name_name b) (name_passed b (sym c.check_name.ensures ∙ c.in-Ok.is)).1 in
    record { short = omega (arith, ap length n, f) }

pub returns-in-Err : goal.returns-in-Err
returns-in-Err c =
    let a = c.args in
    let g = endpoint_of a.state.now in
    form_refused_alike g a.at (expect_name g a.challenge a.body.now) c.check_name.ensures c.in-Err.is c.refuse.ensures a.out.now
