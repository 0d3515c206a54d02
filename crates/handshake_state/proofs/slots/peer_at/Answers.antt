use mathlib.Core.Path.{ap}
use Rattle.names.specs.Held.{name_bytes, name_of}
use Rattle.handshake_rules.specs.declared.endpoint.Slot.{Slot}
use Rattle.handshake_state.proofs.BytesLaws.{slot_past}
use Rattle.handshake_state.proofs.slots.peer_at.Goals as goal

pub returns-then-at-ge32 : goal.returns-then-at-ge32
unfolding name_bytes name_of
returns-then-at-ge32 c = ap (λ (x : Slot). name_bytes x.name) (slot_past c.args.state.now c.args.at c.if-at-ge32.true)
