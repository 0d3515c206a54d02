-- Laws of look-ups in the places of a registry: what a place is found by. Assumes nothing.
use Prim.Native.Nat.{ℕ, ◌≤◌, ◌<◌}
use mathlib.Core.Path.{◌≡◌, refl}
use mathlib.Core.Bool.{Bool, true, false, not}
use mathlib.Core.Logic.{◌⊎◌, inl, inr, ⊎_elim}
use mathlib.Core.List.{List}
use native.Mathlib.Omega.{arith}
use borrow.Author.Tests.{not-true, eq-eqb, eqb-true, ltb-true, ltb-false}
use lib.Dec.{eqb, ltb}
use lib.ListN.{length}
use Rattle.wire.specs.Lookup.{first_at}
use Rattle.wire.specs.Run.{same_bytes}
use Rattle.wire.proofs.LookupLaws.{first_passes, first_before}
use Rattle.wire.proofs.RunLaws.{and_left, and_right, same_decides}
use Rattle.names.specs.Held.{name_bytes}
use Rattle.epmd_rules.specs.declared.registration.Registration.{Registration}
use Rattle.epmd_rules.specs.State.{Registry}
use Rattle.epmd_rules.specs.Registration.{free, is_free, has_name, has_connection}
use Rattle.epmd_rules.specs.Registry.{entry_at, by_name, by_connection, lowest_free}
use Rattle.epmd_rules.specs.Claims.{SomeTaken, Named, NameInUse, Connected, ConnectionRegistered, NoPlace, Exactly}

-- a test finds the taken places of which something holds, and no others
pub record Finds (has : Registration → Bool) (holds : Registration → Type 0) : Type 0 where
  pub taken : (p : Registration) → has p ≡ true → is_free p ≡ false
  pub held : (p : Registration) → has p ≡ true → holds p
  pub found : (p : Registration) → is_free p ≡ false → holds p → has p ≡ true

pub finds_name : (name : List ℕ) → Finds (has_name name) (Named name)
unfolding has_name
finds_name name =
    record {
      taken = λ p e. not-true (is_free p) (and_left (not (is_free p)) (same_bytes (name_bytes p.name) name) e);
      held = λ p e. (same_decides (name_bytes p.name) name).0 (and_right (not (is_free p)) (same_bytes (name_bytes p.name) name) e);
      found = λ p f e. rw f ((same_decides (name_bytes p.name) name).1 e);
    }

pub finds_connection : (c : ℕ) → Finds (has_connection c) (Connected c)
unfolding has_connection
finds_connection c =
    record {
      taken = λ p e. not-true (is_free p) (and_left (not (is_free p)) (eqb p.connection c) e);
      held = λ p e. eqb-true p.connection c (and_right (not (is_free p)) (eqb p.connection c) e);
      found = λ p f e. rw f (eq-eqb p.connection c e);
    }

-- what is not found is not there
pub not_found : {has : Registration → Bool} {holds : Registration → Type 0} → Finds has holds → (p : Registration) → has p ≡ false
    → is_free p ≡ false → holds p → ⊥
not_found finds p h f e = cc (finds.found p f e, h)

-- where one of two things is so, and the first exactly if something holds, the second is so exactly if it does not
otherwise : {A B P : Type 0} → A ⊎ B → (A → B → ⊥) → Exactly A P → Exactly B (P → ⊥)
otherwise one apart e = (λ b p. apart (e.1 p) b, λ h. ⊎_elim (λ a. absurd (h (e.0 a))) (λ b. b) one)

pub below : (n m : ℕ) → (n < m) ⊎ (m ≤ n)
below n m = by (ltb n m) refl where
  by : (t : Bool) → ltb n m ≡ t → (n < m) ⊎ (m ≤ n)
  by true e = inl (ltb-true n m e)
  by false e = inr (ltb-false n m e)

module _ (r : Registry) (long : length r.registrations ≡ 64) where
  module _ (has : Registration → Bool) (holds : Registration → Type 0) (finds : Finds has holds) where
    there : first_at has r.registrations < 64 → SomeTaken r holds
    unfolding entry_at
    there h =
        let i = first_at has r.registrations in
        let e : has (entry_at r i) ≡ true = first_passes has r.registrations free (omega arith) in
        record { place = i; within = h; taken = finds.taken (entry_at r i) e; held = finds.held (entry_at r i) e }

    not_there : 64 ≤ first_at has r.registrations → SomeTaken r holds → ⊥
    unfolding entry_at
    not_there h s =
        not_found finds (entry_at r s.place) (first_before has r.registrations free s.place (omega (arith, s.within))) s.taken s.held

    place_exactly : Exactly (first_at has r.registrations < 64) (SomeTaken r holds)
    place_exactly = (there, λ s. ⊎_elim (λ h. h) (λ h. absurd (not_there h s)) (below (first_at has r.registrations) 64))

  pub named_exactly : (name : List ℕ) → Exactly (by_name r name < 64) (NameInUse r name)
  unfolding by_name
  named_exactly name = place_exactly (has_name name) (Named name) (finds_name name)

  pub unnamed_exactly : (name : List ℕ) → Exactly (64 ≤ by_name r name) (NameInUse r name → ⊥)
  unnamed_exactly name = otherwise (below (by_name r name) 64) (λ a b. omega arith) (named_exactly name)

  pub connected_exactly : (c : ℕ) → Exactly (by_connection r c < 64) (ConnectionRegistered r c)
  unfolding by_connection
  connected_exactly c = place_exactly (has_connection c) (Connected c) (finds_connection c)

  pub unconnected_exactly : (c : ℕ) → Exactly (64 ≤ by_connection r c) (ConnectionRegistered r c → ⊥)
  unconnected_exactly c = otherwise (below (by_connection r c) 64) (λ a b. omega arith) (connected_exactly c)

  -- the lowest free place is free, and those below it are taken
  pub lowest_is_free : lowest_free r < 64 → is_free (entry_at r (lowest_free r)) ≡ true
  unfolding entry_at lowest_free
  lowest_is_free h = first_passes is_free r.registrations free (omega arith)

  pub lower_taken : (i : ℕ) → i < lowest_free r → is_free (entry_at r i) ≡ false
  unfolding entry_at lowest_free
  lower_taken i h = first_before is_free r.registrations free i h

  pub full_exactly : Exactly (64 ≤ lowest_free r) (NoPlace r)
  full_exactly = (λ g i m. lower_taken i (omega arith), λ all. ⊎_elim (λ l. absurd (free_yet_taken l all)) (λ g. g) (below (lowest_free r) 64)) where
    free_yet_taken : lowest_free r < 64 → NoPlace r → ⊥
    free_yet_taken l all = cc (lowest_is_free l, all (lowest_free r) l)

  pub room_exactly : Exactly (lowest_free r < 64) (NoPlace r → ⊥)
  room_exactly = otherwise (⊎_elim (λ l. inr l) (λ g. inl g) (below (lowest_free r) 64)) (λ g l. omega arith) full_exactly
