-- Laws of look-up's answer: it is Some slot exactly where the lowest slot's number is one. Assumes nothing.
use Rattle.std.specs.Prelude.{ℕ, ◌≡◌, ◌≤◌, ◌<◌, Bool, true, false, Some, None, is_some, refl, Ok, Err}
use Rattle.std.specs.Option.{ok_or}
use Rattle.handshake_rules.specs.declared.refusal.Refusal.{Refusal}
use borrow.Author.Tests.{lt-ltb, le-ltb}
use Rattle.handshake_rules.specs.Endpoint.{is_slot, freed_at}
use Rattle.handshake_state.specs.Lookup.{found}

pub some_found : (n i : ℕ) → n ≡ i → i < 32 → Some i ≡ found n
some_found n i e h = rw (e, lt-ltb i 32 h)

pub none_found : (n : ℕ) → 32 ≤ n → None ≡ found n
none_found n h = rw (le-ltb n 32 h)

-- and back: what an answer says of the number
pub record Found (n i : ℕ) : Type 0 where
  pub here : n ≡ i
  pub slot : is_slot n ≡ true

pub found_some : (n i : ℕ) → found n ≡ Some i → Found n i
found_some n i = by (is_slot n) refl where
  by : (b : Bool) → is_slot n ≡ b → freed_at n b ≡ Some i → Found n i
  by true t e = record { here = (cc); slot = t }
  by false t e = absurd (cc)

pub found_none : (n : ℕ) → found n ≡ None → is_slot n ≡ false
found_none n = by (is_slot n) refl where
  by : (b : Bool) → is_slot n ≡ b → freed_at n b ≡ None → is_slot n ≡ false
  by true t e = absurd (cc)
  by false t e = t

-- the same where a refusal stands for none
pub or_slot : (n i : ℕ) (e : Refusal) → ok_or (found n) e ≡ Ok i → Found n i
or_slot n i e = by (is_slot n) refl where
  by : (b : Bool) → is_slot n ≡ b → ok_or (freed_at n b) e ≡ Ok i → Found n i
  by true t h = record { here = (cc); slot = t }
  by false t h = absurd (cc)

pub or_refused : (n : ℕ) (e r : Refusal) → ok_or (found n) e ≡ Err r → (is_slot n ≡ false) × (r ≡ e)
or_refused n e r = by (is_slot n) refl where
  by : (b : Bool) → is_slot n ≡ b → ok_or (freed_at n b) e ≡ Err r → (is_slot n ≡ false) × (r ≡ e)
  by true t h = absurd (cc)
  by false t h = (t, (cc))

pub found_slot : (n : ℕ) → is_some (found n) ≡ is_slot n
found_slot n = by (is_slot n) where
  by : (b : Bool) → is_some (freed_at n b) ≡ b
  by true = refl
  by false = refl
