use Rattle.handshake_rules.proofs.StageLaws.{form_refused_alike, status_passed}
use Rattle.handshake_rules.specs.Accepting.{expect_alive}
use Rattle.handshake_rules.specs.Endpoint.{slot_at}
use native.Mathlib.Omega.{arith}
use mathlib.Core.Path.{sym, ◌∙◌}
use Rattle.handshake_state.specs.Bytes.{endpoint_of}
use Rattle.handshake_accepting.proofs.accepting.recv_alive.Goals as goal

pub returns-in-Err : goal.returns-in-Err
returns-in-Err c =
    let a = c.args in
    let g = endpoint_of a.state.now in
    form_refused_alike g a.at (expect_alive g (slot_at g a.at) a.challenge a.body.now) c.check_status.ensures c.in-Err.is c.refuse.ensures a.out.now

pub slice_bounds-on_alive-count : goal.slice_bounds-on_alive-count
slice_bounds-on_alive-count c = omega (arith, status_passed c.args.body.now (sym c.check_status.ensures ∙ c.in-Ok.is))

pub slice_bounds-on_alive-start : goal.slice_bounds-on_alive-start
slice_bounds-on_alive-start c = omega (arith, status_passed c.args.body.now (sym c.check_status.ensures ∙ c.in-Ok.is))
