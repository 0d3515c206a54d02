use mathlib.Core.Path.{◌∙◌}
use lib.Dec.{ltb}
use borrow.Author.Tests.{tests}
use Rattle.std.proofs.Common.{rules}
use Rattle.std.proofs.lemmas.Iterator.{YieldsList-from_slice}
use Rattle.std.proofs.lemmas.Iterator.Search.{all_from_yields_List}
use Rattle.script_lines.specs.Text.{digit_value}
use Rattle.script_lines.proofs.TextLaws.{digits_std}
use Rattle.script_lines.proofs.text.all_digits.Goals as goal

pub returns : goal.returns
returns c =
    let a = c.args in
    all_from_yields_List (λ x. ltb (digit_value x) a.radix) _ _ c.all.result c.all.ensures.ran (YieldsList-from_slice a.text.now cc) (λ x b q k. search (rules, tests)) ∙ digits_std a.radix a.text.now
