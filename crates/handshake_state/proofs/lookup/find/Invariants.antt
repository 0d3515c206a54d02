use Rattle.handshake_rules.specs.Endpoint.{sought}
use Rattle.handshake_state.specs.Bytes.{slots_in}
use Rattle.wire.specs.Lookup.{first_at}
use lib.ListN.{drop}
use Prim.Native.Nat.{◌+◌}
use mathlib.Core.Path.{◌≡◌}
use Rattle.handshake_state.proofs.lookup.find.Given as goal

-- none of those before is sought
abbrev pub invariant-loop-i : goal.invariant-loop-i
invariant-loop-i l = first_at (sought l.what l.name) (slots_in l.state) ≡ l.i + first_at (sought l.what l.name) (drop l.i (slots_in l.state))
