use Prim.Native.Nat.{◌+◌}
use mathlib.Core.Path.{sym, ◌∙◌}
use lib.ListN.{length}
use Rattle.epmd_rules.specs.Requests.{port_please2_rules}
use Rattle.epmd_client_rules.specs.Requests.{port_please2_frame, port_please2_writing}
use Rattle.epmd_client_rules.proofs.WritingLaws.{writes_none, writes_frame, port_please2_held, port_please2_size}
use Rattle.epmd_client.proofs.requests.port_please2_request.Goals as goal

pub returns-in_err-count : goal.returns-in_err-count
unfolding port_please2_writing
returns-in_err-count c =
    let a = c.args in
    let n = a.name.now in
    writes_none (port_please2_rules n) (port_please2_frame n) (3 + length n) (length a.out.now) (port_please2_size n) c.decide_port_please2.ensures c.in_err-count.was c.from_residual.result c.from_residual.ensures.1 a.out.now

pub put_port_please2-requires : goal.put_port_please2-requires
put_port_please2-requires c = let a = c.args in port_please2_held a.name.now (length a.out.now) _ (sym c.decide_port_please2.ensures ∙ c.in_ok-count.was)

pub returns : goal.returns
unfolding port_please2_writing
returns c =
    let a = c.args in
    let n = a.name.now in
    writes_frame (port_please2_rules n) (port_please2_frame n) (3 + length n) (length a.out.now) (port_please2_size n) c.decide_port_please2.ensures c.in_ok-count.was a.out.now _ c.put_port_please2.ensures
