use Rattle.std.proofs.Common.{arith, sym, ◌∙◌, ◌+◌}
use Rattle.epmd_rules.specs.Registration.{has_name}
use Rattle.epmd_rules.specs.Registry.{by_name}
use Rattle.epmd_state.proofs.BytesLaws.{some_found, none_found, seek_all, hit, skip, missed, leap}
use Rattle.epmd_state.proofs.find.find_name.Goals as goal

pub loop-i-init : goal.loop-i-init
unfolding by_name
loop-i-init c =
    let a = c.args in
    leap a.name.now a.state.now _ 0 _ _ c.last_of-last.ensures (seek_all (has_name a.name.now) a.state.now) c.find_like-i.ensures

pub returns-then-has_name : goal.returns-then-has_name
returns-then-has_name c =
    let a = c.args in
    let l = c.loop-i in
    some_found _ l.i (sym (hit (has_name a.name.now) a.state.now _ l.i c.record_of.result.now l.invariant (omega arith) c.record_of.ensures (sym c.has_name.ensures ∙ c.if-has_name.true))) (omega arith)

pub loop-i-smaller : goal.loop-i-smaller
loop-i-smaller c = omega (arith, c.find_like-i-in-loop-i.ensures)

pub loop-i-preserved : goal.loop-i-preserved
loop-i-preserved c =
    let a = c.args in
    let l = c.loop-i in
    leap a.name.now a.state.now _ (l.i + 1) _ _ c.last_of-last.ensures
    (skip (has_name a.name.now) a.state.now _ l.i c.record_of.result.now l.invariant (omega arith) c.record_of.ensures (sym c.has_name.ensures ∙ c.if-has_name.false))
    c.find_like-i-in-loop-i.ensures

pub returns : goal.returns
returns c =
    let a = c.args in
    let l = c.loop-i in
    none_found _ (omega (arith, missed (has_name a.name.now) a.state.now _ l.i a.state.now l.invariant (omega arith)))
