-- Laws of hexadecimal and decimal text. Assumes nothing.
use Prim.Native.Nat.{ℕ, zero, suc, ◌+◌, ◌*◌, ◌-◌, ◌/◌, ◌%◌, ◌≤◌, ◌<◌}
use mathlib.Core.Path.{◌≡◌, refl, sym, ap, ap₂, ◌∙◌}
use mathlib.Core.Bool.{Bool, true, false, cond, ◌&&◌}
use Rattle.std.proofs.Common.{Option, Some, None}
use Rattle.std.specs.List.{list_all}
use Rattle.std.specs.Simd.{first_chunks}
use mathlib.Core.List.{List, [], ◌∷◌, ◌++◌, append_assoc, append-nil}
use native.Mathlib.Numerals.{add-one}
use native.Mathlib.Omega.{arith}
use lib.ListN.{length, get_or, set, take, drop, drop_of_length-le, take-append-drop}
use lib.Seq.{get_or-take, get_or-drop, drop-drop, drop-cons, take-suc, take-suc-set, length-take-le}
use lib.Dec.{eqb, leb, ltb}
use borrow.Author.Tests.{lt-ltb, le-ltb, ltb-true, ltb-false, le-leb, lt-leb, leb-true, leb-false, eqb-true}
use Rattle.wire.specs.Decimal.{value_from}
use Rattle.wire.specs.Output.{overwrite, written}
use Rattle.wire.proofs.RunLaws.{and_left, and_right}
use Rattle.wire.proofs.OutputLaws.{overwrite_join}
use Rattle.script_lines.specs.Text.{digit_value, all_digits, is_hex, unhex, digit_char, hex_of}

-- ---- a character's value, by where it stands

module _ (c : ℕ) where
  pub value_below : c < 48 → digit_value c ≡ 16
  unfolding digit_value
  value_below h = rw (lt-leb 48 c h, lt-leb 97 c (omega arith))

  pub value_numeral : 48 ≤ c → c ≤ 57 → digit_value c ≡ c - 48
  unfolding digit_value
  value_numeral h k = rw (le-leb 48 c h, le-leb c 57 k)

  pub value_between : 57 < c → c < 97 → digit_value c ≡ 16
  unfolding digit_value
  value_between h k = rw (lt-leb c 57 h, le-leb 48 c (omega arith), lt-leb 97 c k)

  pub value_letter : 97 ≤ c → c ≤ 102 → digit_value c ≡ c - 87
  unfolding digit_value
  value_letter h k = rw (lt-leb c 57 (omega arith), le-leb 48 c (omega arith), le-leb 97 c h, le-leb c 102 k)

  pub value_above : 102 < c → digit_value c ≡ 16
  unfolding digit_value
  value_above h = rw (lt-leb c 57 (omega arith), le-leb 48 c (omega arith), le-leb 97 c (omega arith), lt-leb c 102 h)

-- how a character stands to the digits
pub data Digit (c : ℕ) : Type 0 where
  numeral_at : 48 ≤ c → c ≤ 57 → Digit c
  letter_at : 97 ≤ c → c ≤ 102 → Digit c
  other : digit_value c ≡ 16 → Digit c

pub digit_of : (c : ℕ) → Digit c
digit_of c = by (ltb c 48) refl (leb c 57) refl (ltb c 97) refl (leb c 102) refl where
  by : (p : Bool) → ltb c 48 ≡ p → (q : Bool) → leb c 57 ≡ q → (u : Bool) → ltb c 97 ≡ u → (v : Bool) → leb c 102 ≡ v → Digit c
  by true e q f u g v k = other (value_below c (ltb-true c 48 e))
  by false e true f u g v k = numeral_at (ltb-false c 48 e) (leb-true c 57 f)
  by false e false f true g v k = other (value_between c (leb-false c 57 f) (ltb-true c 97 g))
  by false e false f false g true k = letter_at (ltb-false c 97 g) (leb-true c 102 k)
  by false e false f false g false k = other (value_above c (leb-false c 102 k))

-- as the code tells it: a digit's value, or none
module _ (c : ℕ) where
  pub digit_numeral : 48 ≤ c → c ≤ 57 → Some (c - 48) ≡ cond (ltb (digit_value c) 16) (Some (digit_value c)) None
  digit_numeral h k = rw (value_numeral c h k, lt-ltb (c - 48) 16 (omega arith))

  pub digit_letter : 97 ≤ c → c ≤ 102 → Some (c - 87) ≡ cond (ltb (digit_value c) 16) (Some (digit_value c)) None
  digit_letter h k = rw (value_letter c h k, lt-ltb (c - 87) 16 (omega arith))

  pub digit_none : (48 ≤ c → c ≤ 57 → ⊥) → (97 ≤ c → c ≤ 102 → ⊥) → ◌≡◌ {A = Option ℕ} None (cond (ltb (digit_value c) 16) (Some (digit_value c)) None)
  digit_none n l = by (digit_of c) where
    by : Digit c → ◌≡◌ {A = Option ℕ} None (cond (ltb (digit_value c) 16) (Some (digit_value c)) None)
    by (numeral_at h k) = absurd (n h k)
    by (letter_at h k) = absurd (l h k)
    by (other e) = rw e

-- what is no digit has no value below any radix
pub digit_no : (c radix : ℕ) → radix ≤ 16 → (48 ≤ c → c ≤ 57 → ⊥) → (97 ≤ c → c ≤ 102 → ⊥) → false ≡ ltb (digit_value c) radix
digit_no c radix h n l = by (digit_of c) where
  by : Digit c → false ≡ ltb (digit_value c) radix
  by (numeral_at a b) = absurd (n a b)
  by (letter_at a b) = absurd (l a b)
  by (other e) = sym (ap (λ (d : ℕ). ltb d radix) e ∙ le-ltb 16 radix h)

-- where a digit stands, and its value
pub record Known (c : ℕ) : Type 0 where
  pub numeral_value : c ≤ 57 → (48 ≤ c) × (c - 48 ≡ digit_value c)
  pub letter_value : 57 < c → (97 ≤ c) × (c - 87 ≡ digit_value c)

pub known : (c : ℕ) → digit_value c < 16 → Known c
known c h = by (digit_of c) where
  by : Digit c → Known c
  by (numeral_at a b) = record { numeral_value = λ k. (a, sym (value_numeral c a b)); letter_value = λ k. absurd (omega arith) }
  by (letter_at a b) = record { numeral_value = λ k. absurd (omega arith); letter_value = λ k. (a, sym (value_letter c a b)) }
  by (other e) = absurd (omega (arith, e))

-- a decimal digit is a numeral
pub numeral : (c : ℕ) → digit_value c < 10 → (48 ≤ c) × (c ≤ 57)
numeral c h = by (digit_of c) where
  by : Digit c → (48 ≤ c) × (c ≤ 57)
  by (numeral_at l u) = (l, u)
  by (letter_at l u) = absurd (omega (arith, value_letter c l u))
  by (other e) = absurd (omega arith)

-- ---- every character is a digit

-- std's test of every character is the same
pub digits_std : (r : ℕ) (cs : List ℕ) → list_all (λ c. ltb (digit_value c) r) cs ≡ all_digits r cs
unfolding all_digits
digits_std r [] = refl
digits_std r (c ∷ cs) = ap (λ (t : Bool). ltb (digit_value c) r && t) (digits_std r cs)

-- what is left from index i on
module _ (r : ℕ) (t : List ℕ) (i : ℕ) (h : i < length t) where
  digits_step : all_digits r (drop i t) ≡ ltb (digit_value (get_or t i 0)) r && all_digits r (drop (i + 1) t)
  unfolding all_digits
  digits_step = rw (add-one i, drop-cons t i 0)

  pub digits_go : digit_value (get_or t i 0) < r → all_digits r (drop i t) ≡ all_digits r (drop (i + 1) t)
  digits_go k = digits_step ∙ rw (lt-ltb _ _ k)

  pub digits_stop : r ≤ digit_value (get_or t i 0) → all_digits r (drop i t) ≡ false
  digits_stop k = digits_step ∙ rw (le-ltb _ _ k)

pub digits_end : (r : ℕ) (t : List ℕ) (i : ℕ) → length t ≤ i → all_digits r (drop i t) ≡ true
unfolding all_digits
digits_end r t i h = rw (drop_of_length-le t h)

pub digits_at : (r : ℕ) (t : List ℕ) (i : ℕ) → all_digits r t ≡ true → i < length t → digit_value (get_or t i 0) < r
unfolding all_digits
digits_at r [] i e h = absurd (omega arith)
digits_at r (c ∷ cs) zero e h = ltb-true (digit_value c) r (and_left _ (all_digits r cs) e)
digits_at r (c ∷ cs) (suc i) e h = digits_at r cs i (and_right (ltb (digit_value c) r) (all_digits r cs) e) (omega arith)

pub digits_rest : (r c : ℕ) (cs : List ℕ) → all_digits r (c ∷ cs) ≡ true → all_digits r cs ≡ true
unfolding all_digits
digits_rest r c cs e = and_right (ltb (digit_value c) r) (all_digits r cs) e

pub hex_even : (t : List ℕ) → is_hex t ≡ true → (length t % 2 ≡ 0) × (all_digits 16 t ≡ true)
unfolding is_hex
hex_even t e = (eqb-true (length t % 2) 0 (and_left _ (all_digits 16 t) e), and_right (eqb (length t % 2) 0) (all_digits 16 t) e)

-- ---- text to bytes

-- a digit of the k-th pair
pair_at : (n k : ℕ) (t : List ℕ) → k < n → get_or (first_chunks 2 n t) k [] ≡ take 2 (drop (2 * k) t)
pair_at zero k t h = absurd (omega arith)
pair_at (suc n) zero t h = refl
pair_at (suc n) (suc k) t h =
    let two : 2 + 2 * k ≡ 2 * suc k = omega arith in
    pair_at n k (drop 2 t) (omega arith) ∙ ap (take 2) (drop-drop (2 * k) 2 t ∙ ap (λ (j : ℕ). drop j t) two)

pub pair_digit : (n k i : ℕ) (t : List ℕ) (ps : List (List ℕ)) → ps ≡ first_chunks 2 n t → k < n → i < 2 → get_or (get_or ps k []) i 0 ≡ get_or t (2 * k + i) 0
pair_digit n k i t ps e h l =
    ap (λ (x : List (List ℕ)). get_or (get_or x k []) i 0) e ∙ ap (λ (x : List ℕ). get_or x i 0) (pair_at n k t h)
    ∙ get_or-take 2 (drop (2 * k) t) i 0 l ∙ get_or-drop (2 * k) t i 0

module _ (t : List ℕ) (i : ℕ) (h : i + 1 < length t) where
  pub unhex_step : unhex (drop i t) ≡ (digit_value (get_or t i 0) * 16 + digit_value (get_or t (i + 1) 0)) ∷ unhex (drop (i + 2) t)
  unfolding unhex
  unhex_step =
      let one : suc i ≡ i + 1 = omega arith in
      let two : suc (suc i) ≡ i + 2 = omega arith in
      ap unhex (drop-cons t i 0 (omega arith) ∙ ap (λ (l : List ℕ). get_or t i 0 ∷ l) (drop-cons t (suc i) 0 (omega arith)))
      ∙ ap₂ (λ (j k : ℕ). (digit_value (get_or t i 0) * 16 + digit_value (get_or t j 0)) ∷ unhex (drop k t)) one two

-- a turn of the reading loop: the bytes that are made stand before those to come
module _ (t out : List ℕ) (k : ℕ) (fits : k < length out) (more : 2 * k + 1 < length t) (inv : unhex t ≡ take k out ++ unhex (drop (2 * k) t)) where
  pub unhex_next : (v : ℕ) → v ≡ digit_value (get_or t (2 * k) 0) * 16 + digit_value (get_or t (2 * k + 1) 0)
      → unhex t ≡ take (k + 1) (set out k v) ++ unhex (drop (2 * (k + 1)) t)
  unhex_next v e =
      let p : 2 * k + 2 ≡ 2 * (k + 1) = omega arith in
      inv
      ∙ ap (λ (l : List ℕ). take k out ++ l) (unhex_step t (2 * k) more)
      ∙ ap₂ (λ (x j : ℕ). take k out ++ (x ∷ unhex (drop j t))) (sym e) p
      ∙ sym (append_assoc (take k out) (v ∷ []) (unhex (drop (2 * (k + 1)) t)))
      ∙ ap (λ (l : List ℕ). l ++ unhex (drop (2 * (k + 1)) t)) (sym (ap (λ (j : ℕ). take j (set out k v)) (add-one k) ∙ take-suc-set out k v fits))

-- its end
module _ (t out out₀ : List ℕ) (n : ℕ) (fits : n ≤ length out) (all : length t ≤ 2 * n) (inv : unhex t ≡ take n out ++ unhex (drop (2 * n) t)) (same : drop n out ≡ drop n out₀) where
  pub unhex_all : unhex t ≡ take n out
  unfolding unhex
  unhex_all = inv ∙ ap (λ (l : List ℕ). take n out ++ unhex l) (drop_of_length-le t all) ∙ append-nil (take n out)

  pub unhex_count : n ≡ length (unhex t)
  unhex_count = sym (length-take-le n out fits) ∙ ap length (sym unhex_all)

  pub unhex_written : out ≡ written (unhex t) out₀
  unfolding written
  unhex_written =
      sym (take-append-drop n out) ∙ ap₂ (λ (x y : List ℕ). x ++ y) (sym unhex_all) same
      ∙ ap (λ (m : ℕ). unhex t ++ drop m out₀) unhex_count

-- ---- bytes to text

pub hex_append : (xs ys : List ℕ) → hex_of (xs ++ ys) ≡ hex_of xs ++ hex_of ys
unfolding hex_of
hex_append [] ys = refl
hex_append (x ∷ xs) ys = ap (λ (l : List ℕ). digit_char (x / 16) ∷ digit_char (x % 16) ∷ l) (hex_append xs ys)

pub hex_length : (xs : List ℕ) → length (hex_of xs) ≡ 2 * length xs
unfolding hex_of
hex_length [] = refl
hex_length (x ∷ xs) = omega (arith, hex_length xs)

-- a turn of the writing loop
module _ (out src : List ℕ) (at i b : ℕ) (h : i < length src) (low : at ≤ length out) (e : b ≡ get_or src i 0) where
  pub hex_next : overwrite (overwrite out at (hex_of (take i src))) (at + 2 * i) (digit_char (b / 16) ∷ digit_char (b % 16) ∷ [])
      ≡ overwrite out at (hex_of (take (i + 1) src))
  unfolding hex_of
  hex_next =
      let pair : List ℕ = digit_char (b / 16) ∷ digit_char (b % 16) ∷ [] in
      let l : length (hex_of (take i src)) ≡ 2 * i = hex_length (take i src) ∙ ap (λ (n : ℕ). 2 * n) (length-take-le i src (omega arith)) in
      overwrite_join out at (hex_of (take i src)) pair (at + 2 * i) low (omega (arith, l))
      ∙ ap (overwrite out at)
      (ap (λ (x : ℕ). hex_of (take i src) ++ (digit_char (x / 16) ∷ digit_char (x % 16) ∷ [])) e
      ∙ sym (hex_append (take i src) (get_or src i 0 ∷ [])) ∙ ap hex_of (sym (take-suc src i 0 h) ∙ ap (λ (n : ℕ). take n src) (sym (add-one i))))

-- ---- decimal text

pub valued_above : (acc : ℕ) (ds : List ℕ) → acc ≤ value_from acc ds
valued_above acc [] = omega arith
valued_above acc (d ∷ ds) = omega (arith, valued_above (acc * 10 + (d - 48)) ds)

pub valued_step : (v : ℕ) (t : List ℕ) (i : ℕ) → i < length t → value_from v (drop i t) ≡ value_from (v * 10 + (get_or t i 0 - 48)) (drop (i + 1) t)
valued_step v t i h =
    ap (value_from v) (drop-cons t i 0 h) ∙ ap (λ (k : ℕ). value_from (v * 10 + (get_or t i 0 - 48)) (drop k t)) (sym (add-one i))

pub valued_end : (v : ℕ) (t : List ℕ) (i : ℕ) → length t ≤ i → value_from v (drop i t) ≡ v
valued_end v t i h = ap (value_from v) (drop_of_length-le t h)
