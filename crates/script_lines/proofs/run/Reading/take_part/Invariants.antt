use Rattle.std.proofs.Common.{length}
use Rattle.script_lines.specs.State.{script_of}
use Rattle.script_lines.specs.Lines.{PrintedOn}
use Rattle.script_lines.proofs.run.Reading.take_part.Given as goal

abbrev pub invariant-loop-rest : goal.invariant-loop-rest
invariant-loop-rest g l = PrintedOn (script_of l.initial.self.run) l.initial.self.held l.part (script_of l.self.run) l.self.held l.rest (g.W.Write.contents l.initial.to) (g.W.Write.contents l.to)

abbrev pub decreases-loop-rest : goal.decreases-loop-rest
decreases-loop-rest g l = length l.rest
