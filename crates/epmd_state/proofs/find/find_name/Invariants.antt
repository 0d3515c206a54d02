use Prim.Native.Nat.{◌-◌}
use Rattle.epmd_rules.specs.Registration.{has_name}
use Rattle.epmd_rules.specs.Registry.{by_name}
use Rattle.epmd_state.specs.Bytes.{places, registry_of}
use Rattle.epmd_state.proofs.BytesLaws.{Sought}
use Rattle.epmd_state.proofs.find.find_name.Given as goal

abbrev pub invariant-loop-i : goal.invariant-loop-i
invariant-loop-i l = Sought (has_name l.name) l.state (by_name (registry_of l.state) l.name) l.i

abbrev pub decreases-loop-i : goal.decreases-loop-i
decreases-loop-i l = places - l.i
