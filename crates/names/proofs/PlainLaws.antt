-- Laws of plain bytes and of ASCII: one by one, in parts, passed in blocks, and eight as one number. Assumes nothing.
use Prim.Native.Nat.{ℕ, zero, suc, ◌+◌, ◌-◌, ◌*◌, ◌/◌, ◌%◌, ◌≤◌, ◌<◌}
use mathlib.Core.Path.{◌≡◌, refl, sym, ap, ap₂, ◌∙◌}
use mathlib.Core.Bool.{Bool, true, false, ◌&&◌, not, and_assoc}
use mathlib.Core.List.{List, [], ◌∷◌, ◌++◌}
use native.Mathlib.Numerals.{add-one}
use native.Mathlib.Omega.{arith}
use lib.ListN.{length, get_or, take, drop, replicate, length-take, length-drop, drop_of_length-le}
use lib.Seq.{take_all, drop-cons, get_or-take, get_or-drop, drop-drop, take-add}
use lib.Dec.{eqb, leb, ltb}
use lib.Bits.{bit_and, and_block, and_high}
use borrow.Author.Tests.{ltb-true, ltb-false, leb-true, leb-false, eq-eqb, ne_eqb}
use Rattle.std.specs.List.{fold}
use Rattle.std.specs.Int.{w64, from_le_bytes}
use Rattle.wire.specs.Run.{part}
use Rattle.wire.specs.Claims.{Octets}
use Rattle.wire.proofs.RunLaws.{gets, part_gets, and_true, and_left, and_right}
use Rattle.names.specs.Node.{plain_byte, plain, ascii, low_first, PlainTo, PassedBy}
use Rattle.names.proofs.Utf8Laws.{and_false}

pub here : (xs : List ℕ) (i : ℕ) → i < length xs → drop i xs ≡ get_or xs i 0 ∷ drop (i + 1) xs
here xs i h = rw (add-one i, drop-cons xs i 0)

-- a turn of the test, and its end
pub plain_step : (xs : List ℕ) (i : ℕ) (t : Bool) → i < length xs → (t && plain_byte (get_or xs i 0)) && plain (drop (i + 1) xs) ≡ t && plain (drop i xs)
unfolding plain
plain_step xs i t h = rw (here xs i h) (and_assoc t (plain_byte (get_or xs i 0)) (plain (drop (i + 1) xs)))

pub plain_end : (xs : List ℕ) (i : ℕ) → length xs ≤ i → plain (drop i xs) ≡ true
unfolding plain
plain_end xs i h = rw (drop_of_length-le xs h)

-- what is told of a text that has come to its end
pub plain_done : (xs : List ℕ) (i : ℕ) (t : Bool) → length xs ≤ i → t && plain (drop i xs) ≡ t
plain_done xs i t h = rw (plain_end xs i h) (and_true t)

-- the test that goes over the bytes, from what it has so far
pub plain_fold : (xs : List ℕ) (t : Bool) → fold (λ (a : Bool) (b : ℕ). a && plain_byte b) t xs ≡ t && plain xs
unfolding plain
plain_fold [] t = sym (and_true t)
plain_fold (x ∷ xs) t = plain_fold xs (t && plain_byte x) ∙ and_assoc t (plain_byte x) (plain xs)

-- ---- byte by byte

pub plain_get : (xs : List ℕ) → plain xs ≡ true → (k : ℕ) → k < length xs → plain_byte (get_or xs k 0) ≡ true
unfolding plain
plain_get [] e k h = absurd (omega arith)
plain_get (x ∷ xs) e zero h = and_left (plain_byte x) (plain xs) e
plain_get (x ∷ xs) e (suc k) h = plain_get xs (and_right (plain_byte x) (plain xs) e) k (omega arith)

-- the bytes of a part
pub plain_part : (at w b : ℕ) (bs : List ℕ) → at + w ≤ length bs → b ≤ at + w → plain (part at w bs) ≡ true → PlainTo bs at b
unfolding part
plain_part at w b bs h g e k l m =
    let p : List ℕ = take w (drop at bs) in
    let same : get_or p (k - at) 0 ≡ get_or bs k 0 =
    get_or-take w (drop at bs) (k - at) 0 (omega arith) ∙ get_or-drop at bs (k - at) 0 ∙ ap (λ (n : ℕ). get_or bs n 0) (omega arith) in
    ap plain_byte (sym same) ∙ plain_get p e (k - at) (simp (length-take, length-drop) (omega arith))

-- two stretches, the second of which begins within the first or at its end
pub plain_join : (bs : List ℕ) (i j a b : ℕ) → a ≤ j → PlainTo bs i j → PlainTo bs a b → PlainTo bs i b
plain_join bs i j a b h p q k l m = by (ltb k j) refl where
  by : (t : Bool) → ltb k j ≡ t → plain_byte (get_or bs k 0) ≡ true
  by true e = p k l (ltb-true k j e)
  by false e = q k (omega (arith, ltb-false k j e)) m

pub plain_none : (bs : List ℕ) (i : ℕ) → PlainTo bs i i
plain_none bs i k l m = absurd (omega arith)

-- of a run that is shorter than a block, no block is asked for
pub passed_short : (v w : ℕ) (bs : List ℕ) (i j : ℕ) → length bs < w → PassedBy v bs i j → PassedBy w bs i j
passed_short v w bs i j h p =
    record { onward = p.onward; inside = p.inside; passed = p.passed; stops = λ g. absurd (omega arith) }

-- ---- ASCII

plain_ascii : (bs : List ℕ) → plain bs ≡ true → ascii bs ≡ true
unfolding plain ascii
plain_ascii [] e = refl
plain_ascii (b ∷ bs) e =
    rw (and_right (not (eqb b 0) && not (eqb b 64)) (leb b 127) (and_left (plain_byte b) (plain bs) e))
    (plain_ascii bs (and_right (plain_byte b) (plain bs) e))

pub not_ascii : (bs : List ℕ) → ascii bs ≡ false → plain bs ≡ false
not_ascii bs e = by (plain bs) refl where
  by : (t : Bool) → plain bs ≡ t → t ≡ false
  by true p = let z : ◌≡◌ {A = ℕ} 0 1 = cc (plain_ascii bs p) in absurd (omega arith)
  by false p = refl

-- the highest bit of a byte
high_bit : (b : ℕ) → b < 256 → eqb (bit_and b 128) 0 ≡ leb b 127
high_bit b h = by (leb b 127) refl where
  bit : bit_and b 128 ≡ b / 128 % 2 * 128
  bit = and_high b 1 7

  by : (t : Bool) → leb b 127 ≡ t → eqb (bit_and b 128) 0 ≡ t
  by true e = eq-eqb (bit_and b 128) 0 (omega (arith, bit, leb-true b 127 e))
  by false e =
      let one : b / 128 ≡ 1 = omega (arith, leb-false b 127 e) in
      ne_eqb (bit_and b 128) 0 (λ q. omega (arith, bit, ap (λ (x : ℕ). x % 2 * 128) one))

sum_zero : (x y : ℕ) → eqb (x * 256 + y) 0 ≡ eqb y 0 && eqb x 0
sum_zero zero y = let e : 0 * 256 + y ≡ y = omega arith in ap (λ (u : ℕ). eqb u 0) e ∙ sym (and_true (eqb y 0))
sum_zero (suc x) y = ne_eqb (suc x * 256 + y) 0 (λ q. omega arith) ∙ sym (and_false (eqb y 0) (eqb (suc x) 0) (ne_eqb (suc x) 0 (λ q. omega arith)))

-- eight bytes as one number, by their halves
pub low_split : (at : ℕ) (xs : List ℕ) → at + 8 ≤ length xs → low_first (part at 8 xs) ≡ low_first (part (at + 4) 4 xs) * 4294967296 + low_first (part at 4 xs)
unfolding part
low_split at xs h =
    let lo : List ℕ = gets at 4 xs in
    let hi : List ℕ = take 4 (drop (at + 4) xs) in
    let g : take 4 (drop at xs) ≡ lo = part_gets 4 at xs (omega arith) in
    let sum : low_first (lo ++ hi) ≡ low_first hi * 4294967296 + low_first lo = omega arith in
    ap low_first (take-add 4 4 (drop at xs) ∙ ap₂ (λ (u v : List ℕ). u ++ take 4 v) g (drop-drop 4 at xs)) ∙ sum ∙ ap (λ (u : List ℕ). low_first hi * 4294967296 + low_first u) (sym g)

-- eight bytes as the library's one number
pub eight : (bs : List ℕ) → length bs ≡ 8 → from_le_bytes w64 bs ≡ low_first bs
unfolding part
eight bs h =
    let e : bs ≡ gets 0 8 bs = sym (take_all 8 bs (omega arith)) ∙ part_gets 8 0 bs (omega arith) in
    let sum : from_le_bytes w64 (gets 0 8 bs) ≡ low_first (gets 0 8 bs) = omega arith in
    ap (from_le_bytes w64) e ∙ sum ∙ sym (ap low_first e)

-- the number that has the highest bit of each of n bytes
abbrev pub high_bits : ℕ → ℕ
high_bits n = low_first (replicate n 128)

-- a number has none of these bits just if each of its bytes is below 128
pub ascii_bits : (bs : List ℕ) → Octets bs → eqb (bit_and (low_first bs) (high_bits (length bs))) 0 ≡ ascii bs
unfolding ascii
ascii_bits [] o = refl
ascii_bits (b ∷ bs) o =
    ap (λ (u : ℕ). eqb u 0) (and_block 8 (low_first bs) (high_bits (length bs)) b 128 (o 0) (omega arith))
    ∙ sum_zero (bit_and (low_first bs) (high_bits (length bs))) (bit_and b 128)
    ∙ ap₂ (λ (u v : Bool). u && v) (high_bit b (o 0)) (ascii_bits bs (λ i. o (suc i)))
