use Rattle.handshake_rules.specs.Accepting.{contest, is_greater}
use Rattle.wire.proofs.RunLaws.{order_flips}
use Rattle.wire.specs.Run.{order, flipped}
use Rattle.std.specs.declared.cmp.Ordering.{Ordering}
use Rattle.std.specs.declared.cmp.Ordering.TheVariants.{Less, Equal, Greater}
use Rattle.std.specs.Ordering.{is_lt}
use mathlib.Core.Bool.{Bool}
use mathlib.Core.Path.{◌≡◌, refl, sym, ap, ◌∙◌}
use Rattle.handshake_accepting.proofs.accepting.contest.Goals as goal

greater_flipped : (o : Ordering) → is_greater (flipped o) ≡ is_lt o
greater_flipped Less = refl
greater_flipped Equal = refl
greater_flipped Greater = refl

pub returns-then-is_lt : goal.returns-then-is_lt
returns-then-is_lt c =
    let a = c.args in
    let e = ap is_greater (order_flips a.own.now a.name.now) ∙ greater_flipped (order a.own.now a.name.now) ∙ ap is_lt (sym c.compare.ensures) ∙ sym c.is_lt.ensures ∙ c.if-is_lt.true in
    sym (ap (λ (b : Bool). contest b a.mine) e)

pub returns : goal.returns
returns c =
    let a = c.args in
    let e = ap is_greater (order_flips a.own.now a.name.now) ∙ greater_flipped (order a.own.now a.name.now) ∙ ap is_lt (sym c.compare.ensures) ∙ sym c.is_lt.ensures ∙ c.if-is_lt.false in
    sym (ap (λ (b : Bool). contest b a.mine) e)
