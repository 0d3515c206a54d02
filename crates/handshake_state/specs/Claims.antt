-- What is proved of the state's layout: it reads back what it writes, and writes back what it reads, so that a state may be compared, stored and
-- handed on as bytes. Each claim names its proof.
use Rattle.std.specs.Prelude.{ℕ, ◌<◌, ◌≡◌, List, length}
use Rattle.wire.specs.Run.{part}
use Rattle.wire.specs.Number.{be_at}
use Rattle.wire.specs.Layout.{offset, Fits}
use Rattle.wire.specs.Table.{Each}
use Rattle.wire.specs.Claims.{Octets}
use Rattle.handshake_rules.specs.declared.endpoint.Slot.{Slot}
use Rattle.handshake_rules.specs.State.{Endpoint}
use Rattle.handshake_state.specs.Bytes.{own_l, own_values, slot_l, slot_values, slot_size, record_at, Whole, endpoint_of, state_bytes}

-- an endpoint whose fields fit their widths, with 32 slots
pub record Storable (g : Endpoint) : Type 0 where
  pub own : Fits own_l (own_values g.name g.flags g.creation)
  pub many : length g.slots ≡ 32
  pub slots : Each (λ (s : Slot). Fits slot_l (slot_values s)) g.slots

-- its bytes are as many as a state has, and hold it (StateLaws.state_back)
abbrev pub StateBack : Type 0
StateBack = (g : Endpoint) → Storable g → (Whole (state_bytes g)) × (endpoint_of (state_bytes g) ≡ g)

-- the stage's byte of every slot is a stage's number
abbrev pub StagesKnown : List ℕ → Type 0
StagesKnown b = (i : ℕ) → i < 32 → be_at 1 (offset slot_l 3) (part (record_at i) slot_size b) < 8

-- and bytes that hold an endpoint are its bytes: none is left over, and two states that hold the same are the same (StateLaws.state_only)
abbrev pub StateOnly : Type 0
StateOnly = (b : List ℕ) → Octets b → Whole b → StagesKnown b → state_bytes (endpoint_of b) ≡ b

pub record Promises : Type 0 where
  pub state_back : StateBack
  pub state_only : StateOnly
