use mathlib.Core.List.{List}
use Rattle.epmd_client_rules.specs.Readings.{Line}
use Rattle.epmd_client_names.specs.Survey.{FirstBelow}
use Rattle.epmd_client_names.specs.Walk.{Lead}
use Rattle.epmd_client_names.proofs.walk.first_len.Given as goal

abbrev pub invariant-loop-n : goal.invariant-loop-n
invariant-loop-n l = (x : List Line) → Lead l.s l.p l.k x → FirstBelow l.n x → ⊥
