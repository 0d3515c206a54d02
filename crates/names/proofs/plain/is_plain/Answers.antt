-- `is_plain` meets its contract.
use mathlib.Core.Bool.{true, ◌&&◌}
use mathlib.Core.Path.{◌∙◌}
use native.Mathlib.Omega.{arith}
use borrow.Author.Tests.{tests}
use Rattle.std.proofs.Common.{rules}
use Rattle.std.proofs.lemmas.Grind.{common_steps}
use Rattle.std.proofs.lemmas.Iterator.{YieldsList-from_slice}
use Rattle.std.proofs.lemmas.Iterator.Consumers.{fold_from_yields_List}
use Rattle.names.specs.Node.{plain_byte}
use Rattle.names.proofs.PlainLaws.{plain_fold}
use Rattle.names.proofs.plain.is_plain.Goals as goal

pub returns : goal.returns
returns c =
    let s = c.args.s.now in
    fold_from_yields_List _ (λ a b. a && plain_byte b) true c.fold.result c.fold.ensures.ran (YieldsList-from_slice s (grind (arith, common_steps))) (λ a x b q k. search (rules, tests)) ∙ plain_fold s true
