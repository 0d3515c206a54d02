-- What is proved of the state's layout: it reads back what it writes, and writes back what it reads, so that a state may be compared, stored and
-- handed on as bytes. Each claim names its proof.
use Rattle.std.specs.Prelude.{ℕ, ◌≡◌, List, [], ◌∷◌, length}
use Rattle.wire.specs.Layout.{int, Fits}
use Rattle.wire.specs.Table.{Each}
use Rattle.wire.specs.Claims.{Octets}
use Rattle.epmd_rules.specs.State.{Registry}
use Rattle.epmd_rules.specs.declared.registration.Registration.{Registration}
use Rattle.epmd_state.specs.Bytes.{head_l, entry_l, entry_values, places, size, registry_of, state_bytes}

-- a registry whose fields fit their widths, with 64 places
pub record Storable (r : Registry) : Type 0 where
  pub head : Fits head_l (int r.port ∷ int r.next ∷ [])
  pub many : length r.registrations ≡ places
  pub registrations : Each (λ (p : Registration). Fits entry_l (entry_values p)) r.registrations

-- its bytes are as many as a state has, and hold it (StateLaws.state_back)
abbrev pub StateBack : Type 0
StateBack = (r : Registry) → Storable r → (length (state_bytes r) ≡ size) × (registry_of (state_bytes r) ≡ r)

-- and bytes that hold a registry are its bytes: none is left over, and two states that hold the same are the same (StateLaws.state_only)
abbrev pub StateOnly : Type 0
StateOnly = (b : List ℕ) → Octets b → length b ≡ size → state_bytes (registry_of b) ≡ b

pub record Promises : Type 0 where
  pub state_back : StateBack
  pub state_only : StateOnly
