use Prim.Native.Nat.{◌+◌}
use lib.ListN.{drop}
use Rattle.wire.specs.Lookup.{first_at}
use Rattle.epmd_state.specs.Bytes.{registry_of, is_like}
use Rattle.epmd_state.proofs.BytesLaws.{Sought}
use Rattle.epmd_state.proofs.find.find_like.Given as goal

abbrev pub invariant-loop-i : goal.invariant-loop-i
invariant-loop-i l = Sought (is_like l.n l.last) l.state (l.fn.from + first_at (is_like l.n l.last) (drop l.fn.from (registry_of l.state).registrations)) l.i
