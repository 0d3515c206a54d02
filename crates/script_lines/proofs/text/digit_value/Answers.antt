use native.Mathlib.Omega.{arith}
use Rattle.script_lines.proofs.TextLaws.{known}
use Rattle.script_lines.proofs.text.digit_value.Goals as goal

pub overflow_sub-result : goal.overflow_sub-result
overflow_sub-result c = omega (arith, ((known c.args.c c.requires).numeral_value c.if-c-le57.true).0)

pub overflow_sub-result-else-c-le57 : goal.overflow_sub-result-else-c-le57
overflow_sub-result-else-c-le57 c = omega (arith, ((known c.args.c c.requires).letter_value c.if-c-le57.false).0)

pub returns-then-c-le57 : goal.returns-then-c-le57
returns-then-c-le57 c = ((known c.args.c c.requires).numeral_value c.if-c-le57.true).1

pub returns-else-c-le57 : goal.returns-else-c-le57
returns-else-c-le57 c = ((known c.args.c c.requires).letter_value c.if-c-le57.false).1
