use borrow.Author.Tests.{le-leb, lt-leb}
use lib.ListN.{length}
use native.Mathlib.Omega.{arith}
use Rattle.script_lines.specs.Text.{leads_zero}
use Rattle.script_lines.proofs.text.leads_zero.Goals as goal

pub returns-then-text-gt1 : goal.returns-then-text-gt1
unfolding leads_zero
returns-then-text-gt1 c = simp (le-leb 2 _ c.if-text-gt1.true)

pub returns-else-text-gt1 : goal.returns-else-text-gt1
unfolding leads_zero
returns-else-text-gt1 c = simp (lt-leb 2 (length c.args.text.now) (omega arith))
