-- Bits as one number: a mask, what of it a number lacks, and its ones counted. Assumes nothing.
use Prim.Native.Nat.{ℕ, zero, suc, ◌+◌, ◌-◌, ◌*◌, ◌/◌, ◌%◌, ◌^◌, ◌≤◌, ◌<◌, min}
use mathlib.Core.Path.{◌≡◌, refl, sym, ◌∙◌, ap, ap₂}
use mathlib.Core.Bool.{Bool, true, false, cond}
use mathlib.Core.List.{List, [], ◌∷◌}
use native.Mathlib.Omega.{arith}
use native.Mathlib.Nat.{le_refl, mod-lt, div-add-mod', pow-suc, mul_assoc, mul_comm}
use lib.ListN.{length}
use lib.Bits.{bit_and, and_block, and_step, and_zero_l}
use lib.Count.{ones, ones_in, ones_cat, ones_step, under, count_trailing_zeros}
use lib.Pow.{pow_pos, pow-add, shr-shr}
use borrow.Author.Tests.{eqb-true, eqb-false}
use Rattle.handshake_rules.specs.Flags.{bit, missing}
use Rattle.handshake_rules.proofs.FlagLaws.{Rising, Under}

-- the number whose ones are bits that rise, counted from bit lo on
abbrev pub mask : ℕ → List ℕ → ℕ
mask lo [] = 0
mask lo (i ∷ is) = (2 * mask (suc i) is + 1) * 2 ^ (i - lo)

-- ---- its ones

ones_odd : (x : ℕ) → ones (2 * x + 1) ≡ suc (ones x)
ones_odd x =
    let h : (2 * x + 1) / 2 ≡ x = omega arith in
    let o : (2 * x + 1) % 2 ≡ 1 = omega arith in
    ones_step (2 * x + 1) ∙ ap₂ (λ (u v : ℕ). u + ones v) o h ∙ omega arith

ones_none : ones 0 ≡ 0
unfolding ones ones_in
ones_none = refl

ones_shifted : (k x : ℕ) → ones (x * 2 ^ k) ≡ ones x
ones_shifted k x =
    let z : x * 2 ^ k + 0 ≡ x * 2 ^ k = omega arith in
    ap ones (sym z) ∙ ones_cat k x 0 (pow_pos k) ∙ omega (arith, ones_none)

pub mask_ones : (is : List ℕ) (lo : ℕ) → ones (mask lo is) ≡ length is
mask_ones [] lo = ones_none
mask_ones (i ∷ is) lo = ones_shifted (i - lo) (2 * mask (suc i) is + 1) ∙ ones_odd (mask (suc i) is) ∙ ap suc (mask_ones is (suc i))

pub mask_none : (is : List ℕ) → mask 0 is ≡ 0 → is ≡ []
mask_none [] e = refl
mask_none (i ∷ is) e = absurd (omega (arith, sym (mask_ones (i ∷ is) 0) ∙ ap ones e ∙ ones_none))

-- ---- its lowest

half : (j x : ℕ) → ((2 * x + 1) * 2 ^ suc j % 2 ≡ 0) × ((2 * x + 1) * 2 ^ suc j / 2 ≡ (2 * x + 1) * 2 ^ j)
half j x =
    let m = (2 * x + 1) * 2 ^ j in
    let e : (2 * x + 1) * 2 ^ suc j ≡ m * 2 = ap (λ (u : ℕ). (2 * x + 1) * u) (pow-suc 2 j) ∙ sym (mul_assoc (2 * x + 1) (2 ^ j) 2) in
    (rw e (omega arith), rw e (omega arith))

trailing : (j w x : ℕ) → j < w → count_trailing_zeros w ((2 * x + 1) * 2 ^ j) ≡ j
unfolding count_trailing_zeros
trailing j zero x l = absurd (omega (arith, l))
trailing zero (suc w) x l =
    let o : (2 * x + 1) * 2 ^ 0 % 2 ≡ 1 = omega arith in
    ap (λ (u : ℕ). under u (count_trailing_zeros w ((2 * x + 1) * 2 ^ 0 / 2))) o
trailing (suc j) (suc w) x l =
    let h = half j x in
    ap₂ (λ (u v : ℕ). under u (count_trailing_zeros w v)) h.0 h.1 ∙ ap suc (trailing j w x (omega (arith, l)))

pub mask_lowest : (w i : ℕ) (is : List ℕ) → i < w → count_trailing_zeros w (mask 0 (i ∷ is)) ≡ i
mask_lowest w i is l =
    let z : i - 0 ≡ i = omega arith in
    ap (λ (k : ℕ). count_trailing_zeros w ((2 * mask (suc i) is + 1) * 2 ^ k)) z ∙ trailing i w (mask (suc i) is) l

-- ---- what of it a number lacks

-- the complement in w bits has the bits that f has not
flipped : (i v f : ℕ) → i ≤ v → f < 2 ^ suc v → (2 ^ suc v - 1 - f) / 2 ^ i % 2 ≡ 1 - f / 2 ^ i % 2
flipped zero v f l h = omega (arith, pow-suc 2 v, pow_pos v, h)
flipped (suc i) zero f l h = absurd (omega (arith, l))
flipped (suc i) (suc v) f l h =
    let T = 2 ^ suc v in
    let p : 2 ^ suc (suc v) ≡ T * 2 = pow-suc 2 (suc v) in
    let lo : f / 2 < T = omega (arith, p, h) in
    let half : (2 ^ suc (suc v) - 1 - f) / 2 ≡ T - 1 - f / 2 = omega (arith, p, h) in
    let a : (2 ^ suc (suc v) - 1 - f) / 2 ^ suc i ≡ (T - 1 - f / 2) / 2 ^ i = sym (shr-shr (2 ^ suc (suc v) - 1 - f) 1 i ∙ one_more (2 ^ suc (suc v) - 1 - f)) ∙ ap (λ (u : ℕ). u / 2 ^ i) half in
    let b : f / 2 ^ suc i ≡ f / 2 / 2 ^ i = sym (shr-shr f 1 i ∙ one_more f) in
    ap (λ (u : ℕ). u % 2) a ∙ flipped i v (f / 2) (omega (arith, l)) lo ∙ ap (λ (u : ℕ). 1 - u % 2) (sym b)
  where
    one_more : (n : ℕ) → n / 2 ^ (1 + i) ≡ n / 2 ^ suc i
    one_more n = let e : 1 + i ≡ suc i = omega arith in ap (λ (u : ℕ). n / 2 ^ u) e

-- bits that stand from lo on
abbrev From : ℕ → List ℕ → Type 0
From lo [] = Unit
From lo (i ∷ is) = lo ≤ i

from_missing : (is : List ℕ) (lo m f : ℕ) → lo ≤ m → Rising m is → From lo (missing is f)
from_missing [] lo m f l r = tt
from_missing (i ∷ is) lo m f l r = by (bit i f) (from_missing is lo (suc i) f (omega (arith, l, r.0)) r.1)
  where
    by : (b : Bool) → From lo (missing is f) → From lo (cond b (missing is f) (i ∷ missing is f))
    by true h = h
    by false h = omega (arith, l, r.0)

-- counted from a lower bit, a mask stands higher
lower : (is : List ℕ) (lo i : ℕ) → lo ≤ i → From (suc i) is → mask lo is ≡ mask (suc i) is * 2 * 2 ^ (i - lo)
lower [] lo i l h = omega arith
lower (j ∷ js) lo i l h =
    let x = 2 * mask (suc j) js + 1 in
    let e : j - lo ≡ (j - suc i) + suc (i - lo) = omega (arith, l, h) in
    let p : 2 ^ (j - lo) ≡ 2 ^ (j - suc i) * (2 * 2 ^ (i - lo)) = ap (λ (u : ℕ). 2 ^ u) e ∙ pow-add 2 (j - suc i) (suc (i - lo)) ∙ ap (λ (u : ℕ). 2 ^ (j - suc i) * u) (pow-suc 2 (i - lo) ∙ mul_comm (2 ^ (i - lo)) 2) in
    ap (λ (u : ℕ). x * u) p ∙ sym (mul_assoc x (2 ^ (j - suc i)) (2 * 2 ^ (i - lo))) ∙ sym (mul_assoc (x * 2 ^ (j - suc i)) 2 (2 ^ (i - lo)))

pub under_missing : (is : List ℕ) (w f : ℕ) → Under w is → Under w (missing is f)
under_missing [] w f u = tt
under_missing (i ∷ is) w f u = by (bit i f) (under_missing is w f u.1)
  where
    by : (b : Bool) → Under w (missing is f) → Under w (cond b (missing is f) (i ∷ missing is f))
    by true h = h
    by false h = (u.0, h)

-- `mask & !f`, in suc v bits, from bit lo on: the mask of those that f lacks
lacking_from : (is : List ℕ) (lo v f n : ℕ) → Rising lo is → Under v is → f < 2 ^ suc v → n ≡ (2 ^ suc v - 1 - f) / 2 ^ lo
    → bit_and (mask lo is) n ≡ mask lo (missing is f)
lacking_from [] lo v f n r u h e = and_zero_l n
lacking_from (i ∷ is) lo v f n r u h e =
    shifted (i - lo) (2 * mask (suc i) is + 1) n
    ∙ ap (λ (y : ℕ). bit_and (2 * mask (suc i) is + 1) y * 2 ^ (i - lo)) up
    ∙ ap (λ (y : ℕ). y * 2 ^ (i - lo)) (odd (mask (suc i) is) (C / 2 ^ i))
    ∙ ap₂ (λ (y z : ℕ). (y * 2 + min 1 z) * 2 ^ (i - lo)) (lacking_from is (suc i) v f (C / 2 ^ i / 2) r.1 u.1 h next) (flipped i v f u.0 h)
    ∙ by (bit i f) refl
  where
    C : ℕ
    C = 2 ^ suc v - 1 - f

    -- the mask's lowest zeros
    shifted : (k a n : ℕ) → bit_and (a * 2 ^ k) n ≡ bit_and a (n / 2 ^ k) * 2 ^ k
    shifted k a n =
        let z : a * 2 ^ k ≡ a * 2 ^ k + 0 = omega arith in
        ap₂ bit_and z (sym (div-add-mod' n (2 ^ k))) ∙ and_block k a (n / 2 ^ k) 0 (n % 2 ^ k) (pow_pos k) (mod-lt n (pow_pos k))
        ∙ omega (arith, and_zero_l (n % 2 ^ k))

    -- and its lowest one
    odd : (x m : ℕ) → bit_and (2 * x + 1) m ≡ bit_and x (m / 2) * 2 + min 1 (m % 2)
    odd x m =
        let q : (2 * x + 1) / 2 ≡ x = omega arith in
        let o : (2 * x + 1) % 2 ≡ 1 = omega arith in
        and_step (2 * x + 1) m ∙ ap₂ (λ (y z : ℕ). bit_and y (m / 2) * 2 + min z (m % 2)) q o

    up : n / 2 ^ (i - lo) ≡ C / 2 ^ i
    up =
        let s : lo + (i - lo) ≡ i = omega (arith, r.0) in
        ap (λ (y : ℕ). y / 2 ^ (i - lo)) e ∙ shr-shr C lo (i - lo) ∙ ap (λ (y : ℕ). C / 2 ^ y) s

    next : C / 2 ^ i / 2 ≡ C / 2 ^ suc i
    next =
        let s : i + 1 ≡ suc i = omega arith in
        shr-shr C i 1 ∙ ap (λ (y : ℕ). C / 2 ^ y) s

    by : (b : Bool) → bit i f ≡ b
        → (mask (suc i) (missing is f) * 2 + min 1 (1 - f / 2 ^ i % 2)) * 2 ^ (i - lo) ≡ mask lo (cond b (missing is f) (i ∷ missing is f))
    by true q =
        let z : mask (suc i) (missing is f) * 2 + min 1 (1 - f / 2 ^ i % 2) ≡ mask (suc i) (missing is f) * 2 = omega (arith, eqb-true (f / 2 ^ i % 2) 1 q) in
        ap (λ (y : ℕ). y * 2 ^ (i - lo)) z ∙ sym (lower (missing is f) lo i r.0 (from_missing is (suc i) (suc i) f (le_refl (suc i)) r.1))
    by false q =
        let z : mask (suc i) (missing is f) * 2 + min 1 (1 - f / 2 ^ i % 2) ≡ 2 * mask (suc i) (missing is f) + 1 = omega (arith, eqb-false (f / 2 ^ i % 2) 1 q, mod-lt (f / 2 ^ i) (pow_pos 1)) in
        ap (λ (y : ℕ). y * 2 ^ (i - lo)) z

pub lacking : (is : List ℕ) (v f : ℕ) → Rising 0 is → Under v is → f < 2 ^ suc v → bit_and (mask 0 is) (2 ^ suc v - 1 - f) ≡ mask 0 (missing is f)
lacking is v f r u h = lacking_from is 0 v f (2 ^ suc v - 1 - f) r u h (omega arith)
