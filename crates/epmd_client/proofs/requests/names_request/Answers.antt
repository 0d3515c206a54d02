use mathlib.Core.Path.{sym, ◌∙◌}
use mathlib.Core.List.{[]}
use lib.ListN.{length}
use Rattle.epmd_client_rules.specs.Requests.{names_frame, names_writing}
use Rattle.epmd_client_rules.proofs.WritingLaws.{writes_none, writes_frame, names_held, names_size}
use Rattle.epmd_client.proofs.requests.names_request.Goals as goal

pub returns-in_err-count : goal.returns-in_err-count
unfolding names_writing
returns-in_err-count c =
    let a = c.args in
    writes_none [] names_frame 3 (length a.out.now) names_size c.decide_room.ensures c.in_err-count.was c.from_residual.result c.from_residual.ensures.1 a.out.now

pub put_names-requires : goal.put_names-requires
put_names-requires c = let a = c.args in names_held (length a.out.now) _ (sym c.decide_room.ensures ∙ c.in_ok-count.was)

pub returns : goal.returns
unfolding names_writing
returns c =
    let a = c.args in
    writes_frame [] names_frame 3 (length a.out.now) names_size c.decide_room.ensures c.in_ok-count.was a.out.now _ c.put_names.ensures
