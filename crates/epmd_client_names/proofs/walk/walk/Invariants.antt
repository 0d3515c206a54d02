use mathlib.Core.Path.{◌≡◌}
use lib.ListN.{length}
use Rattle.epmd_client_rules.specs.Readings.{most}
use Rattle.epmd_client_names.proofs.WalkLaws.{Sofar}
use Rattle.epmd_client_names.proofs.walk.walk.Given as goal

abbrev pub invariant-loop-i : goal.invariant-loop-i
invariant-loop-i l = (length l.lines ≡ most) × Sofar l.s l.count l.lines l.p l.i
