-- An endpoint's bytes and the endpoint that bytes hold: one gives back the other. Assumes nothing.
use Prim.Native.Nat.{ℕ, zero, suc, ◌+◌, ◌*◌, ◌<◌}
use mathlib.Core.Path.{◌≡◌, refl, sym, ◌∙◌, ap, ap₂}
use mathlib.Core.List.{List, [], ◌∷◌, ◌++◌}
use native.Mathlib.Omega.{arith}
use lib.ListN.{length, length-append}
use Rattle.wire.specs.Run.{part}
use Rattle.wire.specs.Number.{be_at}
use Rattle.wire.specs.Layout.{int, run, encode, decode, offset, int_at, run_at, Fits}
use Rattle.wire.specs.Table.{table, table_bytes, Each}
use Rattle.wire.specs.Claims.{Octets}
use Rattle.wire.proofs.RunLaws.{part_length}
use Rattle.wire.proofs.NumberLaws.{octets_part}
use Rattle.wire.proofs.LayoutLaws.{layout_back, layout_only, layout_whole}
use Rattle.wire.proofs.TableLaws.{Kept, table_back, table_long, table_only}
use Rattle.handshake_rules.specs.declared.endpoint.Slot.{Slot}
use Rattle.handshake_rules.specs.Endpoint.{stage_number, stage_of}
use Rattle.handshake_state.specs.Bytes.{own_l, own_values, slot_l, slot_values, slot_bytes, own_size, slot_size, record_at, slot_by, slots_in, endpoint_of, state_bytes}
use Rattle.handshake_state.specs.Claims.{StateBack, StateOnly, Promises}
use Rattle.handshake_state.proofs.BytesLaws.{own_from, slot_back, slot_long, own_long}

-- ---- what is written is read back

each_kept : (l : List Slot) → Each (λ (s : Slot). Fits slot_l (slot_values s)) l → Each (Kept slot_by slot_bytes slot_size) l
unfolding Each
each_kept [] h = tt
each_kept (s ∷ l) h = ((slot_long s h.0.1.1.1.1.1.0, slot_back s h.0), each_kept l h.1)

pub state_back : StateBack
unfolding endpoint_of slots_in
state_back g h =
    let own : List ℕ = encode own_l (own_values g.name g.flags g.creation) in
    let k = each_kept g.slots h.slots in
    let long : length own ≡ own_size = own_long g.name g.flags g.creation h.own.1.0 in
    let slots : table slot_by slot_size 32 own_size (state_bytes g) ≡ g.slots =
    ap (λ (n : ℕ). table slot_by slot_size n own_size (state_bytes g)) (sym h.many) ∙ table_back slot_by slot_bytes slot_size g.slots own own_size long k in (
      omega (arith, length-append own (table_bytes slot_bytes g.slots), long, table_long slot_by slot_bytes slot_size g.slots k, h.many),
      ap₂ own_from (layout_back own_l (own_values g.name g.flags g.creation) (table_bytes slot_bytes g.slots) h.own).fields slots,
    )

-- ---- what is read is what would be written

stage_known : (n : ℕ) → n < 8 → stage_number (stage_of n) ≡ n
unfolding stage_of
stage_known zero h = refl
stage_known (suc zero) h = refl
stage_known (suc (suc zero)) h = refl
stage_known (suc (suc (suc zero))) h = refl
stage_known (suc (suc (suc (suc zero)))) h = refl
stage_known (suc (suc (suc (suc (suc zero))))) h = refl
stage_known (suc (suc (suc (suc (suc (suc zero)))))) h = refl
stage_known (suc (suc (suc (suc (suc (suc (suc zero))))))) h = refl
stage_known (suc (suc (suc (suc (suc (suc (suc (suc n)))))))) h = absurd (omega arith)

slot_only : (c : List ℕ) → Octets c → length c ≡ slot_size → be_at 1 (offset slot_l 3) c < 8 → slot_bytes (slot_by c) ≡ c
unfolding slot_by
slot_only c o l h =
    ap (λ (n : ℕ). encode slot_l (int (int_at slot_l 0 c) ∷ int (int_at slot_l 1 c) ∷ int (int_at slot_l 2 c) ∷ int n ∷ int (int_at slot_l 4 c) ∷ run (run_at slot_l 5 c) ∷ [])) (stage_known (be_at 1 (offset slot_l 3) c) h)
    ∙ layout_whole slot_l c o (sym l)

pub state_only : StateOnly
unfolding endpoint_of slots_in
state_only b o l h =
    let r = (layout_only own_l b o (omega (arith, l))).whole in
    let each : (i : ℕ) → i < 32 → slot_bytes (slot_by (part (own_size + i * slot_size) slot_size b)) ≡ part (own_size + i * slot_size) slot_size b =
    λ i k. slot_only (part (record_at i) slot_size b) (octets_part b o (record_at i) slot_size) (part_length (record_at i) slot_size b (omega (arith, l))) (h i k) in
    ap (λ (x : List ℕ). encode own_l (decode own_l b) ++ x) (table_only slot_by slot_bytes slot_size 32 own_size b l each) ∙ r

pub promises : Promises
promises = record { state_back = state_back; state_only = state_only }
