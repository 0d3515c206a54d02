use lib.ListN.{drop}
use Prim.Native.Nat.{◌≤◌, ◌+◌}
use mathlib.Core.Path.{◌≡◌}
use Rattle.wire.specs.Run.{count}
use Rattle.wire.proofs.run.count_byte.Given as goal

abbrev pub invariant-loop-x : goal.invariant-loop-x
invariant-loop-x l = (l.n ≤ l.x-index) × (count l.b l.s ≡ l.n + count l.b (drop l.x-index l.s))
