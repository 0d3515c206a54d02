-- Laws of an endpoint that lies in bytes: a slot's record is read where it lies, and overwriting it changes that slot alone. Assumes nothing.
use Prim.Native.Nat.{ℕ, ◌+◌, ◌<◌, ◌≤◌}
use mathlib.Core.Path.{◌≡◌, refl, sym, ◌∙◌, ap, ap₂}
use mathlib.Core.List.{List, [], ◌∷◌, ◌++◌, append-nil}
use native.Mathlib.Omega.{arith}
use lib.ListN.{length, length-append, get_or, set, drop, replicate}
use Rattle.wire.specs.Run.{part}
use Rattle.wire.specs.Number.{num, be_at}
use Rattle.wire.specs.Output.{overwrite}
use Rattle.wire.specs.Layout.{number, Value, int, encode, decode, offset, int_of, run_of, Fits}
use Rattle.wire.specs.Table.{table}
use Rattle.wire.proofs.LayoutLaws.{layout_back}
use Rattle.wire.proofs.TableLaws.{part_before, table_count, table_at, table_after, table_set, table_zeros}
use Rattle.names.specs.Held.{name_of}
use Rattle.names.specs.declared.held.Name.{Name}
use Rattle.handshake_rules.specs.declared.endpoint.Slot.{Slot}
use Rattle.handshake_rules.specs.declared.endpoint.Stage.{Stage}
use Rattle.handshake_rules.specs.declared.endpoint.Stage.TheVariants.{Free, AwaitsName, AwaitsAlive, AwaitsReply, AwaitsStatus, AwaitsChallenge, AwaitsAck, Connected}
use Rattle.handshake_rules.specs.State.{Endpoint}
use Rattle.handshake_rules.specs.Endpoint.{stage_number, stage_of, free_slot, slot_at, put}
use Rattle.handshake_rules.proofs.SlotLaws.{stage_back, past_last, put_past}
use Rattle.handshake_state.specs.Bytes.{own_l, own_values, numbers_l, slot_l, slot_values, slot_bytes, own_size, slot_size, state_size, record_at, Whole, slot_from, slot_by, slots_in, endpoint_of, owned_by}

-- ---- slots

pub slots_count : (b : List ℕ) → length (slots_in b) ≡ 32
unfolding slots_in
slots_count b = table_count slot_by slot_size 32 own_size b

pub here_long : (b : List ℕ) → length (endpoint_of b).slots ≡ 32
unfolding endpoint_of
here_long b = slots_count b

-- slot i is what its record holds
pub slots_at : (b : List ℕ) (i : ℕ) → i < 32 → get_or (slots_in b) i free_slot ≡ slot_by (part (record_at i) slot_size b)
unfolding slots_in
slots_at b i h = table_at slot_by slot_size 32 own_size i (record_at i) b free_slot h refl

pub slot_here : (b : List ℕ) (i : ℕ) → i < 32 → slot_at (endpoint_of b) i ≡ slot_by (part (record_at i) slot_size b)
unfolding endpoint_of
slot_here b i h = slots_at b i h

-- what is written of a slot is read back
pub slot_back : (s : Slot) → Fits slot_l (slot_values s) → slot_by (slot_bytes s) ≡ s
unfolding slot_by
slot_back s h =
    ap (λ (c : List ℕ). slot_from (decode slot_l c)) (sym (append-nil (slot_bytes s)))
    ∙ ap slot_from (layout_back slot_l (slot_values s) [] h).fields
    ∙ ap (λ (st : Stage). record { stage = st; name = s.name; flags = s.flags; creation = s.creation; challenge = s.challenge }) (stage_back s.stage)

pub stage_small : (s : Stage) → stage_number s < 256
stage_small Free = omega arith
stage_small AwaitsName = omega arith
stage_small AwaitsAlive = omega arith
stage_small AwaitsReply = omega arith
stage_small AwaitsStatus = omega arith
stage_small AwaitsChallenge = omega arith
stage_small AwaitsAck = omega arith
stage_small Connected = omega arith

-- the numbers and then the name, as the code writes them
pub slot_split : (s : Slot)
    → encode numbers_l (int s.flags ∷ int s.creation ∷ int s.challenge ∷ int (stage_number s.stage) ∷ int s.name.len ∷ []) ++ s.name.bytes ≡ slot_bytes s
slot_split s =
    ap (λ (l : List ℕ). encode numbers_l (int s.flags ∷ int s.creation ∷ int s.challenge ∷ int (stage_number s.stage) ∷ int s.name.len ∷ []) ++ l)
    (sym (append-nil s.name.bytes))

pub slot_long : (s : Slot) → length s.name.bytes ≡ 255 → length (slot_bytes s) ≡ slot_size
slot_long s h = omega (arith, h, ap length (append-nil s.name.bytes))

-- THE LAW: a slot's record overwritten is that slot put
pub put_here : (b : List ℕ) (i : ℕ) (s : Slot) → i < 32 → Whole b → Fits slot_l (slot_values s) → length (slot_bytes s) ≡ slot_size
    → endpoint_of (overwrite b (record_at i) (slot_bytes s)) ≡ put (endpoint_of b) i s
unfolding endpoint_of slots_in be_at
put_here b i s h l fits long =
    let a : ℕ = record_at i in
    let r = slot_bytes s in
    let p0 : part 0 1 (overwrite b a r) ≡ part 0 1 b = part_before 0 1 a b r (omega arith) (omega (arith, l)) in
    let p1 : part (offset own_l 1) 255 (overwrite b a r) ≡ part (offset own_l 1) 255 b = part_before (offset own_l 1) 255 a b r (omega arith) (omega (arith, l)) in
    let p2 : part (offset own_l 2) 8 (overwrite b a r) ≡ part (offset own_l 2) 8 b = part_before (offset own_l 2) 8 a b r (omega arith) (omega (arith, l)) in
    let p3 : part (offset own_l 3) 4 (overwrite b a r) ≡ part (offset own_l 3) 4 b = part_before (offset own_l 3) 4 a b r (omega arith) (omega (arith, l)) in
    let q : table slot_by slot_size 32 own_size (overwrite b a r) ≡ set (table slot_by slot_size 32 own_size b) i s =
    table_set slot_by slot_size 32 own_size i a b r h refl long (omega (arith, l)) ∙ ap (set (table slot_by slot_size 32 own_size b) i) (slot_back s fits) in
    λ j. record { name = record { bytes = p1 j; len = num (p0 j) }; flags = num (p2 j); creation = num (p3 j); slots = q j }

-- past the last slot nothing is put, and a slot is free
pub kept_past : (b : List ℕ) (i : ℕ) (s : Slot) → 32 ≤ i → endpoint_of b ≡ put (endpoint_of b) i s
kept_past b i s h = sym (put_past (endpoint_of b) i s (omega (arith, here_long b, h)))

pub slot_past : (b : List ℕ) (i : ℕ) → 32 ≤ i → free_slot ≡ slot_at (endpoint_of b) i
slot_past b i h = sym (past_last (endpoint_of b) i (omega (arith, here_long b, h)))

-- ---- our own name, flags and creation

-- what stands before the slots
abbrev pub own_from : List Value → List Slot → Endpoint
own_from vs l =
    record {
      name = record { bytes = run_of (get_or vs 1 (int 0)); len = int_of (get_or vs 0 (int 0)) };
      flags = int_of (get_or vs 2 (int 0));
      creation = int_of (get_or vs 3 (int 0));
      slots = l;
    }

pub own_here : (b : List ℕ) (n : Name) (f c : ℕ) → Whole b → Fits own_l (own_values n f c) → length (encode own_l (own_values n f c)) ≡ own_size
    → endpoint_of (overwrite b 0 (encode own_l (own_values n f c))) ≡ owned_by n f c (endpoint_of b)
unfolding endpoint_of slots_in overwrite
own_here b n f c l fits long =
    let e = encode own_l (own_values n f c) in
    ap₂ own_from
    (layout_back own_l (own_values n f c) (drop (0 + length e) b) fits).fields
    (table_after slot_by slot_size 32 own_size 0 b e (omega (arith, long)) (omega (arith, long, l)))

pub own_long : (n : Name) (f c : ℕ) → length n.bytes ≡ 255 → length (encode own_l (own_values n f c)) ≡ own_size
own_long n f c h =
    let rest : List ℕ = encode (number 8 ∷ number 4 ∷ []) (int f ∷ int c ∷ []) in
    omega (arith, h, length-append n.bytes rest)

-- ---- zeros are free slots

zeros_free : slot_by (replicate slot_size 0) ≡ free_slot
unfolding slot_by stage_of be_at part name_of
zeros_free = refl

pub none_taken : slots_in (replicate state_size 0) ≡ replicate 32 free_slot
unfolding slots_in
none_taken = table_zeros slot_by slot_size free_slot zeros_free 32 own_size state_size (omega arith)
