use Prim.Native.Nat.{◌+◌, ◌-◌, ◌≤◌}
use mathlib.Core.Path.{◌≡◌}
use Rattle.epmd_client_names.specs.Text.{port_from, port_at}
use Rattle.epmd_client_names.proofs.text.port_at.Given as goal

abbrev pub invariant-loop-j : goal.invariant-loop-j
invariant-loop-j l = (l.v ≤ 65539) × (port_at l.s l.i ≡ port_from (l.i + 5 - l.j) l.s l.j l.v)
