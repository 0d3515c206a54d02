use Rattle.handshake_rules.proofs.StageLaws.{form_refused_alike, status_passed}
use Rattle.handshake_rules.specs.Connecting.{expect_status}
use Rattle.handshake_rules.specs.Endpoint.{slot_at}
use native.Mathlib.Omega.{arith}
use mathlib.Core.Path.{sym, ◌∙◌}
use Rattle.handshake_state.specs.Bytes.{endpoint_of}
use Rattle.handshake_connecting.proofs.connecting.recv_status.Goals as goal

pub returns-in-Err : goal.returns-in-Err
returns-in-Err c =
    let a = c.args in
    let g = endpoint_of a.state.now in
    form_refused_alike g a.at (expect_status (slot_at g a.at) a.body.now) c.check_status.ensures c.in-Err.is c.refuse.ensures a.out.now

pub slice_bounds-on_status-count : goal.slice_bounds-on_status-count
slice_bounds-on_status-count c = omega (arith, status_passed c.args.body.now (sym c.check_status.ensures ∙ c.in-Ok.is))

pub slice_bounds-on_status-start : goal.slice_bounds-on_status-start
slice_bounds-on_status-start c = omega (arith, status_passed c.args.body.now (sym c.check_status.ensures ∙ c.in-Ok.is))
