use Prim.Native.Nat.{◌≤◌}
use mathlib.Core.Path.{◌≡◌}
use lib.ListN.{drop}
use Rattle.wire.specs.Decimal.{value_from, value}
use Rattle.script_lines.proofs.line.small_number.Given as goal

abbrev pub invariant-loop-c : goal.invariant-loop-c
invariant-loop-c l = (l.v ≤ 4294967295) × (value l.text ≡ value_from l.v (drop l.c-index l.text))
