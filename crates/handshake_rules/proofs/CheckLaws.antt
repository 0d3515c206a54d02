-- Laws of checks: what a list of tests comes to. Assumes nothing.
use Rattle.std.specs.Prelude.{Ok, Err}
use Rattle.handshake_rules.specs.Claims.{NoneHolds}
use borrow.Author.Tests.{eq-eqb, ne_eqb, not-true, not-false}
use lib.Dec.{eqb}
use mathlib.Core.Path.{◌≡◌, refl, sym, ◌∙◌}
use mathlib.Core.Bool.{true, false, Bool, not}
use mathlib.Core.List.{List, [], ◌∷◌, ◌++◌}
use Prim.Native.Nat.{ℕ}
use native.Mathlib.Omega.{arith}
use Rattle.handshake_rules.specs.declared.refusal.Refusal.{Refusal}
use Rattle.handshake_rules.specs.Refusals.{Test, ◌given-if◌, checked, unless, Check}

-- ---- what a call or a comparison told

pub said_eq : {r x : ℕ} (t : ℕ) → r ≡ x → r ≡ t → eqb x t ≡ true
said_eq {r} {x} t e h = eq-eqb x t (sym e ∙ h)

pub said_ne : {r x : ℕ} (t : ℕ) → r ≡ x → (r ≡ t → ⊥) → eqb x t ≡ false
said_ne {r} {x} t e h = ne_eqb x t (λ z. h (e ∙ z))

pub said_yes : {r x : Bool} → r ≡ x → not r ≡ false → x ≡ true
said_yes {r} {x} e h = sym e ∙ not-false r h

pub said_no : {r x : Bool} → r ≡ x → not r ≡ true → x ≡ false
said_no {r} {x} e h = sym e ∙ not-true r h

pub not_not : (b : Bool) → not b ≡ false → b ≡ true
not_not b h = not-false b h

-- ---- lists of tests

-- tests that follow others are tried if none of those holds
abbrev pub and_then : Check → Check → Check
and_then (Ok _) d = d
and_then (Err r) d = Err r

pub checked_append : (ts us : List Test) → checked (ts ++ us) ≡ and_then (checked ts) (checked us)
checked_append [] us = refl
checked_append ((r given-if true) ∷ ts) us = refl
checked_append ((r given-if false) ∷ ts) us = checked_append ts us

pub none_holds : (ts : List Test) → checked ts ≡ Ok tt → NoneHolds ts
none_holds [] e = tt
none_holds ((r given-if true) ∷ ts) e = let z : ◌≡◌ {A = ℕ} 0 1 = cc in absurd (omega arith)
none_holds ((r given-if false) ∷ ts) e = (refl, none_holds ts e)

pub passed : (ts : List Test) → NoneHolds ts → checked ts ≡ Ok tt
passed [] h = refl
passed ((r given-if b) ∷ ts) h = rw h.0 (passed ts h.1)

-- what a check comes to, by its two cases
pub unless_elim : {A : Type 0} (P : A → Type 0) (stop : Refusal → A) (due : A) (ts : List Test) → ((r : Refusal) → P (stop r))
    → (NoneHolds ts → P due) → P (unless stop due (checked ts))
unless_elim P stop due ts s d = by (checked ts) refl where
  by : (x : Check) → checked ts ≡ x → P (unless stop due x)
  by (Ok _) e = d (none_holds ts e)
  by (Err r) e = s r
