use Prim.Native.Nat.{◌+◌}
use mathlib.Core.Path.{sym, ◌∙◌}
use lib.ListN.{length}
use Rattle.epmd_rules.specs.Requests.{alive2_rules}
use Rattle.epmd_client_rules.specs.Requests.{alive2_frame, alive2_writing}
use Rattle.epmd_client_rules.proofs.WritingLaws.{writes_none, writes_frame, alive2_held, alive2_size_lem}
use Rattle.epmd_client.proofs.requests.alive2_request.Goals as goal

pub returns-in_err-count : goal.returns-in_err-count
unfolding alive2_writing
returns-in_err-count c =
    let a = c.args in
    let n = a.name.now in
    let x = a.extra.now in
    writes_none (alive2_rules a.highest a.lowest n x) (alive2_frame a.port a.kind a.protocol a.highest a.lowest n x) (15 + length n + length x) (length a.out.now) (alive2_size_lem a.port a.kind a.protocol a.highest a.lowest n x) c.decide_alive2.ensures c.in_err-count.was c.from_residual.result c.from_residual.ensures.1 a.out.now

pub put_alive2-requires : goal.put_alive2-requires
put_alive2-requires c = let a = c.args in alive2_held a.highest a.lowest a.name.now a.extra.now (length a.out.now) _ (sym c.decide_alive2.ensures ∙ c.in_ok-count.was)

pub returns : goal.returns
unfolding alive2_writing
returns c =
    let a = c.args in
    let n = a.name.now in
    let x = a.extra.now in
    writes_frame (alive2_rules a.highest a.lowest n x) (alive2_frame a.port a.kind a.protocol a.highest a.lowest n x) (15 + length n + length x) (length a.out.now) (alive2_size_lem a.port a.kind a.protocol a.highest a.lowest n x) c.decide_alive2.ensures c.in_ok-count.was a.out.now _ c.put_alive2.ensures
