use Rattle.std.proofs.Common.{rules, arith, sym, ◌∙◌}
use Rattle.epmd_state.specs.Bytes.{is_like}
use Rattle.epmd_state.proofs.BytesLaws.{seek, hit, skip, missed}
use Rattle.epmd_state.proofs.find.find_like.Goals as goal

pub loop-i-init : goal.loop-i-init
loop-i-init c =
    let a = c.args in
    seek (is_like a.n a.last) a.state.now a.from (search rules)

pub returns-then-is_like : goal.returns-then-is_like
returns-then-is_like c =
    let a = c.args in
    let l = c.loop-i in
    hit (is_like a.n a.last) a.state.now _ l.i c.record_of.result.now l.invariant (omega arith) c.record_of.ensures (sym c.is_like.ensures ∙ c.if-is_like.true)

pub loop-i-preserved : goal.loop-i-preserved
loop-i-preserved c =
    let a = c.args in
    let l = c.loop-i in
    skip (is_like a.n a.last) a.state.now _ l.i c.record_of.result.now l.invariant (omega arith) c.record_of.ensures (sym c.is_like.ensures ∙ c.if-is_like.false)

pub returns : goal.returns
returns c =
    let a = c.args in
    let l = c.loop-i in
    omega (arith, missed (is_like a.n a.last) a.state.now _ l.i a.state.now l.invariant (omega arith))
