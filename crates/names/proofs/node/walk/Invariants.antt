use mathlib.Core.Path.{◌≡◌}
use lib.ListN.{drop}
use Rattle.names.specs.Node.{node_text}
use Rattle.names.proofs.node.walk.Given as goal

abbrev pub invariant-loop-j : goal.invariant-loop-j
invariant-loop-j l = node_text (drop l.i l.s) ≡ node_text (drop l.j l.s)
