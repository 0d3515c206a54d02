-- Laws of slots: what a slot is after a change, and what a look-up finds. Assumes nothing.
use Rattle.handshake_rules.specs.declared.endpoint.Sought.TheVariants.{AnyFree, AcceptedFrom, StartedTo, ConnectedTo, AnyTaken}
use Rattle.names.specs.Held.{name_bytes}
use Rattle.wire.specs.Run.{same_bytes}
use Rattle.wire.specs.Lookup.{first_at}
use Prim.Native.Nat.{ℕ, zero, suc, ◌<◌, ◌≤◌}
use mathlib.Core.Path.{◌≡◌, refl, sym, ◌∙◌, ap}
use mathlib.Core.Logic.{◌⊎◌, inl, inr, ⊎_map}
use mathlib.Core.Bool.{Bool, true, false, ◌&&◌, true≢false, cond, not}
use mathlib.Core.List.{List, [], ◌∷◌}
use native.Mathlib.Omega.{arith}
use lib.ListN.{length, get_or, set, replicate}
use lib.Seq.{get_or-set_same, get_or-set_other}
use Rattle.std.proofs.lemmas.List.{get_or_past, set_past}
use lib.Dec.{ltb, eqb}
use borrow.Author.Tests.{ltb-true, ltb-false, le-ltb, ne_eqb, eqb-true}
use Rattle.wire.proofs.LookupLaws.{first_passes, first_before}
use Rattle.wire.proofs.RunLaws.{and_left, and_right}
use Rattle.handshake_rules.specs.declared.refusal.Refusal.{Refusal}
use Rattle.handshake_rules.specs.declared.endpoint.Stage.{Stage}
use Rattle.handshake_rules.specs.declared.endpoint.Stage.TheVariants.{Free, AwaitsName, AwaitsAlive, AwaitsReply, AwaitsStatus, AwaitsChallenge, AwaitsAck, Connected}
use Rattle.names.specs.declared.held.Name.{Name}
use Rattle.handshake_rules.specs.declared.endpoint.Slot.{Slot}
use Rattle.handshake_rules.specs.State.{Endpoint}
use Rattle.handshake_rules.specs.declared.endpoint.Sought.{Sought}
use Rattle.handshake_rules.specs.Refusals.{Fate, keep, free, message_fate, is_free}
use Rattle.handshake_rules.specs.Endpoint.{free_slot, unused, stage_number, stage_of, slot_at, put, freed, sought, lowest, is_slot, kind}
use Rattle.handshake_rules.specs.Plans.{spared}

-- a stage is read back from its number
pub stage_back : (s : Stage) → stage_of (stage_number s) ≡ s
unfolding stage_of
stage_back Free = refl
stage_back AwaitsName = refl
stage_back AwaitsAlive = refl
stage_back AwaitsReply = refl
stage_back AwaitsStatus = refl
stage_back AwaitsChallenge = refl
stage_back AwaitsAck = refl
stage_back Connected = refl

-- ---- lists of slots

module _ {A : Type 0} where
  -- an element after a change is what it was, or what was put there
  set_at : (l : List A) (s : ℕ) (x d : A) (i : ℕ) → (get_or (set l s x) i d ≡ get_or l i d) ⊎ ((s ≡ i) × (get_or (set l s x) i d ≡ x))
  set_at [] s x d i = inl refl
  set_at (y ∷ l) zero x d zero = inr (refl, refl)
  set_at (y ∷ l) zero x d (suc i) = inl refl
  set_at (y ∷ l) (suc s) x d zero = inl refl
  set_at (y ∷ l) (suc s) x d (suc i) = ⊎_map (λ e. e) (λ p. (ap suc p.0, p.1)) (set_at l s x d i)

  blank_at : (n i : ℕ) (d : A) → get_or (replicate n d) i d ≡ d
  blank_at zero i d = refl
  blank_at (suc n) zero d = refl
  blank_at (suc n) (suc i) d = blank_at n i d

-- ---- slots by their number

-- a slot after a change is what it was, or what was put there
pub put_at : (g : Endpoint) (s : ℕ) (x : Slot) (i : ℕ) → (slot_at (put g s x) i ≡ slot_at g i) ⊎ ((s ≡ i) × (slot_at (put g s x) i ≡ x))
put_at g s x i = set_at g.slots s x free_slot i

pub put_same : (g : Endpoint) (s : ℕ) (x : Slot) → s < length g.slots → slot_at (put g s x) s ≡ x
put_same g s x l = get_or-set_same g.slots s x free_slot l

pub put_other : (g : Endpoint) (s : ℕ) (x : Slot) (i : ℕ) → (i ≡ s → ⊥) → slot_at (put g s x) i ≡ slot_at g i
put_other g s x i n = get_or-set_other g.slots s i x free_slot n

-- 32 free slots
pub blank : (n : Name) (f c i : ℕ) → slot_at (unused n f c) i ≡ free_slot
blank n f c i = blank_at 32 i free_slot

-- past the last slot
pub past_last : (g : Endpoint) (j : ℕ) → length g.slots ≤ j → slot_at g j ≡ free_slot
past_last g j h = get_or_past g.slots j free_slot h

pub put_past : (g : Endpoint) (j : ℕ) (x : Slot) → length g.slots ≤ j → put g j x ≡ g
put_past g j x h =
    ap (λ (l : List Slot). record { name = g.name; flags = g.flags; creation = g.creation; slots = l }) (set_past g.slots j x h)

-- ---- as the code reads and changes slots

-- a refusal past the last slot, one that keeps and one that frees
module _ (g : Endpoint) (s : ℕ) (r : Refusal) where
  pub spared_past : length g.slots ≤ s → spared g s (message_fate r) ≡ g
  spared_past h = by (message_fate r) where
    by : (x : Fate) → spared g s x ≡ g
    by keep = refl
    by free = put_past g s free_slot h

  pub spared_kept : is_free (message_fate r) ≡ false → spared g s (message_fate r) ≡ g
  spared_kept = by (message_fate r) where
    by : (x : Fate) → is_free x ≡ false → spared g s x ≡ g
    by keep e = refl
    by free e = absurd (true≢false e)

  pub spared_freed : is_free (message_fate r) ≡ true → spared g s (message_fate r) ≡ freed g s
  spared_freed = by (message_fate r) where
    by : (x : Fate) → is_free x ≡ true → spared g s x ≡ freed g s
    by keep e = absurd (true≢false (sym e))
    by free e = refl

-- ---- look-up in an endpoint that has 32 slots

module _ (g : Endpoint) (many : length g.slots ≡ 32) (w : Sought) (n : List ℕ) where
  -- what is found is sought
  pub found : is_slot (lowest w n g) ≡ true → sought w n (slot_at g (lowest w n g)) ≡ true
  found e = first_passes (sought w n) g.slots free_slot (omega (arith, many, ltb-true (lowest w n g) 32 e))

  -- where nothing is found, no slot is sought
  pub none_found : sought w n free_slot ≡ false → is_slot (lowest w n g) ≡ false → (j : ℕ) → sought w n (slot_at g j) ≡ false
  none_found z e j = by (ltb j (lowest w n g)) refl where
    by : (b : Bool) → ltb j (lowest w n g) ≡ b → sought w n (slot_at g j) ≡ false
    by true t = first_before (sought w n) g.slots free_slot j (ltb-true j (lowest w n g) t)
    by false t =
        let far : length g.slots ≤ j = omega (arith, many, ltb-false (lowest w n g) 32 e, ltb-false j (lowest w n g) t) in
        ap (sought w n) (past_last g j far) ∙ z

-- ---- tests

pub both_true : (a b : Bool) → (a && b) ≡ true → (a ≡ true) × (b ≡ true)
both_true a b e = (and_left a b e, and_right a b e)

-- ---- a peer that has no slot at all

first_none : (p q : Slot → Bool) → ((x : Slot) → q x ≡ false → p x ≡ false) → (l : List Slot) → length l ≤ first_at q l → length l ≤ first_at p l
unfolding first_at
first_none p q h [] e = omega arith
first_none p q h (x ∷ l) e = by (λ k. first_none p q h l k) (q x) refl e where
  by : (length l ≤ first_at q l → length l ≤ first_at p l) → (b : Bool) → q x ≡ b → suc (length l) ≤ cond b zero (suc (first_at q l))
      → suc (length l) ≤ cond (p x) zero (suc (first_at p l))
  by later true t e = absurd (omega arith)
  by later false t e = rw (h x t) (omega (arith, later (omega arith)))

kind_untaken : (k j : ℕ) (b : Bool) → (j ≡ 0 → ⊥) → (not (eqb k 0) && b) ≡ false → (eqb k j && b) ≡ false
kind_untaken k j b z e = by (eqb k j) refl where
  by : (x : Bool) → eqb k j ≡ x → (x && b) ≡ false
  by true t = sym (rw (ne_eqb k 0 (λ y. z (sym (eqb-true k j t) ∙ y)))) ∙ e
  by false t = refl

-- each kind that has a peer is taken
untaken : (w : Sought) (n : List ℕ) → (w ≡ AnyFree → ⊥) → (x : Slot) → sought AnyTaken n x ≡ false → sought w n x ≡ false
untaken AnyFree n z x e = absurd (z refl)
untaken AcceptedFrom n z x e = kind_untaken (kind x.stage) 1 (same_bytes (name_bytes x.name) n) (λ y. omega arith) e
untaken StartedTo n z x e = kind_untaken (kind x.stage) 2 (same_bytes (name_bytes x.name) n) (λ y. omega arith) e
untaken ConnectedTo n z x e = kind_untaken (kind x.stage) 3 (same_bytes (name_bytes x.name) n) (λ y. omega arith) e
untaken AnyTaken n z x e = e

pub no_slot : (g : Endpoint) → length g.slots ≡ 32 → (w : Sought) (n : List ℕ) → (w ≡ AnyFree → ⊥) → 32 ≤ lowest AnyTaken n g → is_slot (lowest w n g) ≡ false
no_slot g many w n z h =
    le-ltb (lowest w n g) 32
    (omega (arith, many, first_none (sought w n) (sought AnyTaken n) (untaken w n z) g.slots (omega (arith, many))))
