-- Hexadecimal and decimal text both ways: what is written is read back, and no other text is taken. Assumes nothing.
use Prim.Native.Nat.{ℕ, suc, ◌+◌, ◌*◌, ◌-◌, ◌/◌, ◌%◌, ◌^◌, ◌≤◌, ◌<◌}
use mathlib.Core.Path.{◌≡◌, refl, ap, ◌∙◌}
use mathlib.Core.Bool.{Bool, true, false, ◌&&◌, not}
use mathlib.Core.List.{List, [], ◌∷◌}
use native.Mathlib.Nat.{pow-suc, pow-le-pow_right, add-zero}
use native.Mathlib.Omega.{arith}
use lib.ListN.{length, get_or}
use lib.Dec.{eqb, leb, ltb}
use borrow.Author.Tests.{lt-ltb, le-ltb, ltb-true, ltb-false, le-leb, leb-true, leb-false, eq-eqb, ne_eqb, eqb-false}
use Rattle.wire.specs.Claims.{Octets}
use Rattle.wire.specs.Decimal.{decimal, value_from, value, Text}
use Rattle.wire.proofs.DecimalLaws.{decimal_text, decimal_only}
use Rattle.script_lines.specs.Text.{digit_value, all_digits, is_hex, unhex, digit_char, hex_of, leads_zero, is_decimal}
use Rattle.script_lines.specs.Claims.{HexBack, HexOnly, DecimalBack, DecimalTaken}
use Rattle.script_lines.proofs.TextLaws.{value_numeral, value_letter, Digit, numeral_at, letter_at, other, digit_of, numeral, digits_at, digits_rest, hex_even, hex_length}

-- ---- hexadecimal text both ways

module _ (v : ℕ) where
  char_numeral : v < 10 → digit_char v ≡ 48 + v
  unfolding digit_char
  char_numeral h = rw (lt-ltb v 10 h)

  char_letter : 10 ≤ v → digit_char v ≡ 87 + v
  unfolding digit_char
  char_letter h = rw (le-ltb v 10 h)

  digit_back : v < 16 → digit_value (digit_char v) ≡ v
  digit_back h = by (ltb v 10) refl where
    by : (t : Bool) → ltb v 10 ≡ t → digit_value (digit_char v) ≡ v
    by true e =
        let l : v < 10 = ltb-true v 10 e in
        ap digit_value (char_numeral l) ∙ value_numeral (48 + v) (omega arith) (omega arith) ∙ omega arith
    by false e =
        let l : 10 ≤ v = ltb-false v 10 e in
        ap digit_value (char_letter l) ∙ value_letter (87 + v) (omega arith) (omega arith) ∙ omega arith

char_back : (c : ℕ) → digit_value c < 16 → digit_char (digit_value c) ≡ c
char_back c h = by (digit_of c) where
  by : Digit c → digit_char (digit_value c) ≡ c
  by (numeral_at l u) = ap digit_char (value_numeral c l u) ∙ char_numeral (c - 48) (omega arith) ∙ omega arith
  by (letter_at l u) = ap digit_char (value_letter c l u) ∙ char_letter (c - 87) (omega arith) ∙ omega arith
  by (other e) = absurd (omega arith)

hex_digits : (bs : List ℕ) → Octets bs → all_digits 16 (hex_of bs) ≡ true
unfolding hex_of all_digits
hex_digits [] o = refl
hex_digits (b ∷ bs) o =
    let l : digit_value (digit_char (b / 16)) < 16 = omega (arith, digit_back (b / 16) (omega (arith, o 0)), o 0) in
    let r : digit_value (digit_char (b % 16)) < 16 = omega (arith, digit_back (b % 16) (omega arith)) in
    rw (lt-ltb _ _ l, lt-ltb _ _ r) (hex_digits bs (λ i. o (suc i)))

hex_read : (bs : List ℕ) → Octets bs → unhex (hex_of bs) ≡ bs
unfolding hex_of unhex
hex_read [] o = refl
hex_read (b ∷ bs) o =
    let l = digit_back (b / 16) (omega (arith, o 0)) in
    let r = digit_back (b % 16) (omega arith) in
    let e : digit_value (digit_char (b / 16)) * 16 + digit_value (digit_char (b % 16)) ≡ b = omega (arith, l, r) in
    let t = hex_read bs (λ i. o (suc i)) in
    λ i. e i ∷ t i

pub hex_back : HexBack
unfolding is_hex
hex_back bs o = (rw (eq-eqb (length (hex_of bs) % 2) 0 (omega (arith, hex_length bs))) (hex_digits bs o), hex_read bs o)

hex_again : (cs : List ℕ) → length cs % 2 ≡ 0 → all_digits 16 cs ≡ true → hex_of (unhex cs) ≡ cs
unfolding hex_of unhex
hex_again [] h d = refl
hex_again (a ∷ []) h d = absurd (omega arith)
hex_again (a ∷ b ∷ cs) h d =
    let va = digits_at 16 (a ∷ b ∷ cs) 0 d (omega arith) in
    let vb = digits_at 16 (a ∷ b ∷ cs) 1 d (omega arith) in
    let l : (digit_value a * 16 + digit_value b) / 16 ≡ digit_value a = omega arith in
    let r : (digit_value a * 16 + digit_value b) % 16 ≡ digit_value b = omega arith in
    let x = ap digit_char l ∙ char_back a va in
    let y = ap digit_char r ∙ char_back b vb in
    let t = hex_again cs (omega arith) (digits_rest 16 b cs (digits_rest 16 a (b ∷ cs) d)) in
    λ i. x i ∷ y i ∷ t i

pub hex_only : HexOnly
hex_only cs e = let h = hex_even cs e in hex_again cs h.0 h.1

-- ---- decimal text, exactly

digits_all : (ds : List ℕ) → ((i : ℕ) → i < length ds → (48 ≤ get_or ds i 0) × (get_or ds i 0 ≤ 57)) → all_digits 10 ds ≡ true
unfolding all_digits
digits_all [] h = refl
digits_all (d ∷ ds) h =
    let n = h 0 (omega arith) in
    rw (lt-ltb (digit_value d) 10 (omega (arith, value_numeral d n.0 n.1))) (digits_all ds (λ i k. h (suc i) (omega arith)))

module _ (n : ℕ) (ds : List ℕ) (t : Text 10 n ds) (h : n < 2 ^ 32) where
  leads_none : leads_zero ds ≡ false
  unfolding leads_zero
  leads_none = by (leb 2 (length ds)) refl where
    by : (two : Bool) → leb 2 (length ds) ≡ two → two && eqb (get_or ds 0 0) 48 ≡ false
    by true e = ne_eqb (get_or ds 0 0) 48 (λ z. omega (arith, t.lead (leb-true 2 (length ds) e)))
    by false e = refl

  text_taken : is_decimal ds ≡ true
  unfolding is_decimal
  text_taken = rw (le-leb 1 (length ds) t.some, digits_all ds t.digit, leads_none, le-leb (value ds) 4294967295 (omega (arith, t.says)))

pub decimal_back : DecimalBack
decimal_back n h = let t = decimal_text n h in (text_taken n (decimal n) t h, t.says)

-- a text that begins with no zero says at least as much as its length
grows : (j acc : ℕ) (ds : List ℕ) → 10 ^ j ≤ acc → 10 ^ (j + length ds) ≤ value_from acc ds
grows j acc [] h = rw (add-zero j) h
grows j acc (d ∷ ds) h =
    let e : j + suc (length ds) ≡ suc j + length ds = omega arith in
    rw e (grows (suc j) (acc * 10 + (d - 48)) ds (omega (arith, pow-suc 10 j)))

few_digits : (cs : List ℕ) → 48 < get_or cs 0 0 → value cs ≤ 4294967295 → length cs ≤ 10
few_digits [] h v = omega arith
few_digits (d ∷ ds) h v = by (leb (length ds) 9) refl where
  by : (t : Bool) → leb (length ds) 9 ≡ t → length (d ∷ ds) ≤ 10
  by true e = omega (arith, leb-true (length ds) 9 e)
  by false f =
      let l : 10 ≤ length ds = omega (arith, leb-false (length ds) 9 f) in
      let p : 10 ^ 10 ≤ 10 ^ length ds = pow-le-pow_right {n = 10} (omega arith) l in
      let z : 10 ^ 0 ≤ 0 * 10 + (d - 48) = omega arith in
      let e : 0 + length ds ≡ length ds = omega arith in
      let g : 10 ^ length ds ≤ value (d ∷ ds) = rw e at (grows 0 (0 * 10 + (d - 48)) ds z) in
      absurd (omega (arith, p, g))

module _ (cs : List ℕ) (e : is_decimal cs ≡ true) where
  pub record Parts : Type 0 where
    pub some : 1 ≤ length cs
    pub digits : all_digits 10 cs ≡ true
    pub lead : leads_zero cs ≡ false
    pub fits : value cs ≤ 4294967295

  parts : Parts
  unfolding is_decimal
  parts = by (leb 1 (length cs)) refl (all_digits 10 cs) refl (leads_zero cs) refl (leb (value cs) 4294967295) refl e where
    by : (a : Bool) → leb 1 (length cs) ≡ a → (d : Bool) → all_digits 10 cs ≡ d → (z : Bool) → leads_zero cs ≡ z → (v : Bool) → leb (value cs) 4294967295 ≡ v
        → a && d && not z && v ≡ true → Parts
    by true p true q false r true s f = record { some = leb-true 1 (length cs) p; digits = q; lead = r; fits = leb-true (value cs) 4294967295 s }
    by true p true q false r false s f = let y : ◌≡◌ {A = ℕ} 0 1 = cc in absurd (omega arith)
    by true p true q true r v s f = let y : ◌≡◌ {A = ℕ} 0 1 = cc in absurd (omega arith)
    by true p false q z r v s f = let y : ◌≡◌ {A = ℕ} 0 1 = cc in absurd (omega arith)
    by false p d q z r v s f = let y : ◌≡◌ {A = ℕ} 0 1 = cc in absurd (omega arith)

  no_lead : 2 ≤ length cs → 48 < get_or cs 0 0
  unfolding leads_zero
  no_lead h =
      let b : eqb (get_or cs 0 0) 48 ≡ false = rw (le-leb 2 (length cs) h) at parts.lead in
      omega (arith, eqb-false (get_or cs 0 0) 48 b, numeral (get_or cs 0 0) (digits_at 10 cs 0 parts.digits parts.some))

  short : length cs ≤ 10
  short = by (leb 2 (length cs)) refl where
    by : (t : Bool) → leb 2 (length cs) ≡ t → length cs ≤ 10
    by true f = few_digits cs (no_lead (leb-true 2 (length cs) f)) parts.fits
    by false f = omega (arith, leb-false 2 (length cs) f)

  is_text : Text 10 (value cs) cs
  is_text =
      record {
        says = refl;
        some = parts.some;
        few = short;
        digit = λ i h. numeral (get_or cs i 0) (digits_at 10 cs i parts.digits h);
        lead = no_lead;
      }

pub decimal_taken : DecimalTaken
decimal_taken cs e = (omega (arith, (parts cs e).fits), decimal_only (value cs) cs (is_text cs e))
