-- Laws of the scan as code does it: words, digits, ports. Assumes nothing.
use Prim.Native.Nat.{ℕ, zero, suc, ◌+◌, ◌*◌, ◌-◌, ◌≤◌, ◌<◌}
use mathlib.Core.Path.{◌≡◌, refl, sym, ap, ◌∙◌}
use mathlib.Core.Bool.{Bool, true, false}
use mathlib.Core.List.{List, ◌∷◌, ◌++◌}
use native.Mathlib.Omega.{arith}
use lib.ListN.{length, take, drop, get_or, length-append, length-drop, length-take, take-append-drop}
use lib.Seq.{take_at, drop-drop, get_or-drop}
use Rattle.std.specs.Prelude.{Option, Some, None}
use lib.Dec.{eqb}
use borrow.Author.Tests.{eq-eqb, ne_eqb, lt-ltb, le-ltb, eqb-false}
use Rattle.wire.specs.Run.{part}
use Rattle.wire.proofs.RunLaws.{rest, same_std, same_decides, same_length_ne}
use Rattle.epmd_rules.specs.Replies.{port_word}
use Rattle.epmd_client_names.specs.declared.text.Tail.{Tail}
use Rattle.epmd_client_names.specs.Text.{has_at, digit_at, closed_at, port_from, port_at, tail_at}

-- ---- words

pub has_true : (s : List ℕ) (at : ℕ) (w : List ℕ) → has_at s at w ≡ true → drop at s ≡ w ++ drop (at + length w) s
unfolding has_at part
has_true s at w e =
    sym (take-append-drop (length w) (drop at s))
    ∙ ap (λ (l : List ℕ). l ++ drop (length w) (drop at s)) (sym ((same_decides w (take (length w) (drop at s))).0 e))
    ∙ ap (λ (l : List ℕ). w ++ l) (drop-drop (length w) at s)

pub has_of : (s : List ℕ) (at : ℕ) (w r : List ℕ) → drop at s ≡ w ++ r → has_at s at w ≡ true
unfolding has_at part
has_of s at w r e = (same_decides w (take (length w) (drop at s))).1 (sym (ap (take (length w)) e ∙ take_at w r (length w) refl))

pub has_short : (s : List ℕ) (at : ℕ) (w : List ℕ) → at ≤ length s → length s - at < length w → has_at s at w ≡ false
unfolding has_at part
has_short s at w h l = same_length_ne w (take (length w) (drop at s)) (λ e. omega (arith, e, length-take (length w) (drop at s), length-drop at s))

pub has_inside : (s : List ℕ) (at : ℕ) (w : List ℕ) → at ≤ length s → has_at s at w ≡ true → at + length w ≤ length s
has_inside s at w h e = omega (arith, ap length (has_true s at w e), length-append w (drop (at + length w) s), length-drop at s)

-- another first byte than the word's
pub has_other : (s : List ℕ) (at a : ℕ) (w : List ℕ) → (get_or s at 0 ≡ a → ⊥) → has_at s at (a ∷ w) ≡ false
has_other s at a w h = by (has_at s at (a ∷ w)) refl where
  by : (t : Bool) → has_at s at (a ∷ w) ≡ t → has_at s at (a ∷ w) ≡ false
  by true e =
      let n : at + 0 ≡ at = omega arith in
      absurd (h (ap (λ (k : ℕ). get_or s k 0) (sym n) ∙ sym (get_or-drop at s 0 0) ∙ ap (λ (l : List ℕ). get_or l 0 0) (has_true s at (a ∷ w) e)))
  by false e = e

-- another second byte than that of ` at port `
pub tail_other : (s : List ℕ) (q : ℕ) → eqb (get_or s (q + 1) 0) 97 ≡ false → has_at s q port_word ≡ false
tail_other s q h = by (has_at s q port_word) refl where
  by : (t : Bool) → has_at s q port_word ≡ t → has_at s q port_word ≡ false
  by true e = absurd (eqb-false (get_or s (q + 1) 0) 97 h (sym (get_or-drop q s 1 0) ∙ ap (λ (l : List ℕ). get_or l 1 0) (has_true s q port_word e)))
  by false e = e

pub ruleset word_laws = (rest, same_std)

-- ---- what is found

abbrev pub port_of : Option Tail → ℕ
port_of None = 0
port_of (Some t) = t.port

abbrev pub next_of : Option Tail → ℕ
next_of None = 0
next_of (Some t) = t.next

pub not_found : (t : Tail) → ◌≡◌ {A = Option Tail} None (Some t) → ⊥
not_found t e = let z : ◌≡◌ {A = ℕ} 0 1 = cc in omega arith

-- ---- ports

module _ (s : List ℕ) (i v : ℕ) where
  pub from_stop : (k : ℕ) → digit_at s i ≡ None → port_from k s i v ≡ closed_at s i v
  unfolding port_from
  from_stop zero h = refl
  from_stop (suc k) h = rw h

  module _ (d : ℕ) (h : digit_at s i ≡ Some d) where
    pub from_zero : (k : ℕ) → 0 < k → v ≡ 0 → port_from k s i v ≡ None
    unfolding port_from
    from_zero zero g e = absurd (omega arith)
    from_zero (suc k) g e = rw (h, eq-eqb v 0 e)

    module _ (above : v ≡ 0 → ⊥) where
      pub from_big : (k : ℕ) → 0 < k → 6553 < v → port_from k s i v ≡ None
      unfolding port_from
      from_big zero g l = absurd (omega arith)
      from_big (suc k) g l = rw (h, ne_eqb v 0 above, lt-ltb 6553 v l)

      pub from_go : (k : ℕ) → 0 < k → v ≤ 6553 → port_from k s i v ≡ port_from (k - 1) s (i + 1) (v * 10 + d)
      unfolding port_from
      from_go zero g l = absurd (omega arith)
      from_go (suc k) g l =
          let n : suc k - 1 ≡ k = omega arith in
          rw (h, ne_eqb v 0 above, le-ltb 6553 v l) (ap (λ (m : ℕ). port_from m s (i + 1) (v * 10 + d)) (sym n))

pub port_none : (s : List ℕ) (i : ℕ) → digit_at s i ≡ None → port_at s i ≡ None
unfolding port_at
port_none s i h = rw h

pub port_some : (s : List ℕ) (i d : ℕ) → digit_at s i ≡ Some d → port_at s i ≡ port_from 4 s (i + 1) d
unfolding port_at
port_some s i d h = rw h

-- what follows a name, by the word there
pub tail_on : (s : List ℕ) (q : ℕ) → has_at s q port_word ≡ true → tail_at s q ≡ port_at s (q + 9)
unfolding tail_at
tail_on s q h = rw h

pub tail_off : (s : List ℕ) (q : ℕ) → has_at s q port_word ≡ false → tail_at s q ≡ None
unfolding tail_at
tail_off s q h = rw h

pub tail_none : (s : List ℕ) (q : ℕ) → eqb (get_or s (q + 1) 0) 97 ≡ false → tail_at s q ≡ None
tail_none s q h = tail_off s q (tail_other s q h)
