-- A registry's bytes and the registry that bytes hold: one gives back the other. Assumes nothing.
use Prim.Native.Nat.{ℕ, ◌+◌, ◌*◌, ◌<◌}
use mathlib.Core.Path.{◌≡◌, refl, sym, ◌∙◌, ap, ap₂}
use mathlib.Core.List.{List, [], ◌∷◌, ◌++◌}
use native.Mathlib.Omega.{arith}
use lib.ListN.{length, length-append}
use Rattle.wire.specs.Run.{part}
use Rattle.wire.specs.Layout.{int, encode, decode, Fits}
use Rattle.wire.specs.Table.{table, table_bytes, Each}
use Rattle.wire.specs.Claims.{Octets}
use Rattle.wire.proofs.RunLaws.{part_length}
use Rattle.wire.proofs.NumberLaws.{octets_part}
use Rattle.wire.proofs.LayoutLaws.{layout_back, layout_only, layout_whole}
use Rattle.wire.proofs.TableLaws.{Kept, table_back, table_long, table_only}
use Rattle.epmd_rules.specs.declared.registration.Registration.{Registration}
use Rattle.epmd_state.specs.Bytes.{head_l, entry_l, entry_values, entry_bytes, head_size, entry_size, places, entry_by, registry_of, state_bytes}
use Rattle.epmd_state.specs.Claims.{StateBack, StateOnly, Promises}
use Rattle.epmd_state.proofs.BytesLaws.{head_from, entry_back, entry_long}

-- ---- what is written is read back

each_kept : (l : List Registration) → Each (λ (p : Registration). Fits entry_l (entry_values p)) l → Each (Kept entry_by entry_bytes entry_size) l
unfolding Each
each_kept [] h = tt
each_kept (p ∷ l) h = ((entry_long p h.0.1.0 h.0.1.1.1.0, entry_back p h.0), each_kept l h.1)

pub state_back : StateBack
unfolding registry_of
state_back r h =
    let head : List ℕ = encode head_l (int r.port ∷ int r.next ∷ []) in
    let k = each_kept r.registrations h.registrations in
    let there : table entry_by entry_size places head_size (state_bytes r) ≡ r.registrations =
    ap (λ (n : ℕ). table entry_by entry_size n head_size (state_bytes r)) (sym h.many) ∙ table_back entry_by entry_bytes entry_size r.registrations head head_size refl k in (
      omega (arith, length-append head (table_bytes entry_bytes r.registrations), table_long entry_by entry_bytes entry_size r.registrations k, h.many),
      ap₂ head_from (layout_back head_l (int r.port ∷ int r.next ∷ []) (table_bytes entry_bytes r.registrations) h.head).fields there,
    )

-- ---- what is read is what would be written

entry_only : (c : List ℕ) → Octets c → length c ≡ entry_size → entry_bytes (entry_by c) ≡ c
unfolding entry_by
entry_only c o l = layout_whole entry_l c o (sym l)

pub state_only : StateOnly
unfolding registry_of
state_only b o l =
    let each : (i : ℕ) → i < places → entry_bytes (entry_by (part (head_size + i * entry_size) entry_size b)) ≡ part (head_size + i * entry_size) entry_size b =
    λ i k. entry_only (part (head_size + i * entry_size) entry_size b) (octets_part b o (head_size + i * entry_size) entry_size) (part_length (head_size + i * entry_size) entry_size b (omega (arith, l))) in
    ap (λ (x : List ℕ). encode head_l (decode head_l b) ++ x) (table_only entry_by entry_bytes entry_size places head_size b l each) ∙ (layout_only head_l b o (omega (arith, l))).whole

pub promises : Promises
promises = record { state_back = state_back; state_only = state_only }
