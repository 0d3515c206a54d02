use mathlib.Core.Path.{ap, ◌∙◌}
use native.Mathlib.Omega.{arith}
use Rattle.std.specs.Cmp.Lexicographic.{slice_cmp}
use Rattle.std.specs.Ordering.{nat_cmp}
use Rattle.std.proofs.lemmas.Grind.{common_steps}
use Rattle.wire.proofs.RunLaws.{order_std}
use Rattle.wire.proofs.run.compare.Goals as goal

pub returns : goal.returns
returns c =
    let a = c.args.a.now in
    let b = c.args.b.now in
    c.cmp.ensures ∙ ap (slice_cmp nat_cmp a) (grind (arith, common_steps)) ∙ order_std a b
