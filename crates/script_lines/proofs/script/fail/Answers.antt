use native.Mathlib.Omega.{arith}
use Rattle.script_lines.proofs.AnswerLaws.{failure_fits}
use Rattle.script_lines.proofs.script.fail.Goals as goal

pub put_answer-requires : goal.put_answer-requires
put_answer-requires c = omega (arith, failure_fits, c.requires)
