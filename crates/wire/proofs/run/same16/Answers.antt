use mathlib.Core.Path.{ap, ◌∙◌}
use native.Mathlib.Omega.{arith}
use lib.Dec.{eqb}
use borrow.Author.Tests.{tests}
use Rattle.std.proofs.Common.{rules}
use Rattle.std.proofs.lemmas.Grind.{common_steps}
use Rattle.std.proofs.lemmas.Iterator.{YieldsList-from_slice, YieldsList-from_zip}
use Rattle.std.proofs.lemmas.Iterator.Consumers.{fold_from_yields_List}
use Rattle.wire.proofs.RunLaws.{gather, same_gathered}
use Rattle.wire.proofs.run.same16.Goals as goal

pub returns : goal.returns
returns c =
    let a = c.args.a.now in
    let b = c.args.b.now in
    ap (λ (d : _). eqb d 0) (fold_from_yields_List _ gather 0 c.fold.result c.fold.ensures.ran (YieldsList-from_zip (YieldsList-from_slice a (grind (arith, common_steps))) (YieldsList-from_slice b (grind (arith, common_steps)))) (λ a x b q k. search (rules, tests)))
    ∙ same_gathered 0 a b (omega arith)
