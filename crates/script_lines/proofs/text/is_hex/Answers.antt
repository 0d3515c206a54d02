use borrow.Author.Tests.{eq-eqb, ne_eqb}
use Rattle.script_lines.specs.Text.{is_hex}
use Rattle.script_lines.proofs.text.is_hex.Goals as goal

pub returns-then-text-eq0 : goal.returns-then-text-eq0
unfolding is_hex
returns-then-text-eq0 c = simp (eq-eqb _ _ c.if-text-eq0.true, c.all_digits.ensures)

pub returns-else-text-eq0 : goal.returns-else-text-eq0
unfolding is_hex
returns-else-text-eq0 c = simp (ne_eqb _ _ c.if-text-eq0.false)
