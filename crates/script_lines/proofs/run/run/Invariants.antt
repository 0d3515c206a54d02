use Rattle.script_lines.specs.State.{script_of}
use Rattle.script_lines.proofs.RunLaws.{GoesOn}
use Rattle.script_lines.proofs.run.run.Given as goal

abbrev pub invariant-loop-read : goal.invariant-loop-read
invariant-loop-read g l = GoesOn (g.R.Read.remaining l.initial.from) (g.R.Read.remaining l.from) (g.W.Write.contents l.initial.to) (g.W.Write.contents l.to) (script_of l.reading.run) l.reading.held l._read
