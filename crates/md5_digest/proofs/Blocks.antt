-- Laws of the padded text and of a block that is filled from a zeroed one.
-- Assumes nothing.
use Rattle.std.proofs.Common.{◌≡◌, ℕ, zero, suc, ◌+◌, ◌-◌, ◌*◌, ◌/◌, ◌%◌, ◌^◌, ◌<◌, ◌≤◌, ◌⊎◌, List, [], ◌∷◌, ◌++◌, length, get_or, take, drop, set, replicate, sym, refl, ap, ap₂, ◌∙◌, subst, inl, inr, ⊎_elim, append_assoc, append-nil, le_of_suc-le-suc, not-suc-le-zero, div-one, add-one, arith, length-append, length-drop, length-set, length-take, length-take-le, get_or-drop, get_or-set_other, get_or-take, take-suc, get_or-set_same, ext_get_or, shr-shr}
use lib.ListN.{length-replicate, get_or-replicate, get_or-append, get_or-eq_default}
use lib.Seq.{take-append-le, drop-append-le, get_or_at, drop-drop}
use borrow.Rule.Slice.PartMut.{put_mid}
use Rattle.std.specs.Int.{byte_at, bytes_low_first}
use Rattle.std.specs.Simd.{first_chunks}
use native.Mathlib.Numerals.{unary_clauses}
use Rattle.std.proofs.Math.Nat.{div-div-eq-div-mul}
use Rattle.std.proofs.lemmas.Bool.{cases_eq, cases_lt}
use Rattle.std.proofs.lemmas.List.{get_or-append_right}
use Rattle.md5_digest.specs.Md5.{bytes, zeros, with_bits, pad, block}
use Rattle.md5_digest.specs.Step.{Shows}

-- byte k of a number's bytes
pub bytes_at : (n k x : ℕ) → k < n → get_or (bytes n x) k 0 ≡ x / 2 ^ (8 * k) % 256
bytes_at zero k x h = absurd (not-suc-le-zero h)
bytes_at (suc n) zero x h = ap (λ (m : ℕ). m % 256) (sym (div-one x))
bytes_at (suc n) (suc k) x h =
    let e : 8 + 8 * k ≡ 8 * suc k = omega arith in
    bytes_at n k (x / 256) (le_of_suc-le-suc h) ∙ ap (λ (m : ℕ). m % 256) (shr-shr x 8 (8 * k) ∙ ap (λ (m : ℕ). x / 2 ^ m) e)

-- the bytes that the library takes of a number are the RFC's
low_first : (i k x : ℕ) → bytes_low_first i k x ≡ bytes k (x / 256 ^ i)
low_first i zero x = refl
low_first i (suc k) x =
    let e : 256 ^ suc i ≡ 256 ^ i * 256 = simp unary_clauses refl in
    ap₂ (λ (b : ℕ) (bs : List ℕ). b ∷ bs) (here i)
    (low_first (suc i) k x ∙ ap (bytes k) (ap (λ (d : ℕ). x / d) e ∙ sym (div-div-eq-div-mul x (256 ^ i) 256))) where
      here : (j : ℕ) → byte_at j x ≡ x / 256 ^ j % 256
      here zero = ap (λ (m : ℕ). m % 256) (sym (div-one x))
      here (suc j) = refl

pub le_bytes : (k x : ℕ) → bytes_low_first 0 k x ≡ bytes k x
le_bytes k x = low_first 0 k x ∙ ap (bytes k) (div-one x)

-- ---- lengths

pub bits_length : (m : List ℕ) → length (with_bits m) ≡ length m + (1 + zeros (length m))
unfolding with_bits
bits_length m =
    let z : ℕ = zeros (length m) in
    length-append m (128 ∷ replicate z 0) ∙ ap (λ (n : ℕ). length m + n) (ap suc (length-replicate z 0) ∙ omega arith)

pub pad_length : (m : List ℕ) → length (pad m) ≡ length m + (1 + zeros (length m) + 8)
unfolding pad
pad_length m = length-append (with_bits m) (bytes 8 (8 * length m % 2 ^ 64)) ∙ omega (arith, bits_length m)

-- how many blocks there are
pub pad_blocks : (m : List ℕ) → length m / 64 + (length m % 64 + 72) / 64 ≡ length (pad m) / 64
pad_blocks m = omega (arith, pad_length m)

-- ---- blocks

pub block_length : (m : List ℕ) (i : ℕ) → 64 * i + 64 ≤ length m → length (block m i) ≡ 64
unfolding block
block_length m i h = simp (length-take, length-drop) (omega arith)

-- a block that lies within the text
pub block_text : (m : List ℕ) (i : ℕ) → 64 * i + 64 ≤ length m → take 64 (drop (64 * i) m) ≡ block (pad m) i
unfolding block pad with_bits
block_text m i h =
    let b : 64 * i ≤ length m = omega arith in
    let d : 64 ≤ length (drop (64 * i) m) = simp length-drop (omega arith) in
    let t : List ℕ = 128 ∷ replicate (zeros (length m)) 0 in
    let v : List ℕ = bytes 8 (8 * length m % 2 ^ 64) in
    sym (ap (λ (l : List ℕ). take 64 (drop (64 * i) l)) (append_assoc m t v) ∙ ap (take 64) (drop-append-le (64 * i) m (t ++ v) b)
    ∙ take-append-le 64 (drop (64 * i) m) (t ++ v) d)

chunk_at : (k i : ℕ) (m d : List ℕ) → i < k → get_or (first_chunks 64 k m) i d ≡ take 64 (drop (64 * i) m)
chunk_at zero i m d h = absurd (omega arith)
chunk_at (suc k) zero m d h = refl
chunk_at (suc k) (suc i) m d h =
    chunk_at k i (drop 64 m) d (omega arith) ∙ ap (take 64) (drop-drop (64 * i) 64 m ∙ ap (λ (n : ℕ). drop n m) (omega arith))

-- chunk i of a text is block i of the padded text
pub chunk_block : {bs : List (List ℕ)} (i : ℕ) (m d : List ℕ) → bs ≡ first_chunks 64 (length m / 64) m → i < length m / 64 → get_or bs i d ≡ block (pad m) i
chunk_block i m d e h = ap (λ (bs : List (List ℕ)). get_or bs i d) e ∙ chunk_at (length m / 64) i m d h ∙ block_text m i (omega arith)

-- ---- a block that is filled from a zeroed one

-- the zeroed block, where l ends before it
pub shows_none : {b : List ℕ} (l : List ℕ) (at : ℕ) → b ≡ replicate 64 0 → length l ≤ at → Shows l b at
shows_none {b} l at e h =
    record {
      long = ap length e;
      same = λ j lt. ap (λ (x : List ℕ). get_or x j 0) e ∙ get_or-replicate 64 j 0 0 lt ∙ sym (get_or-eq_default l 0 (omega arith));
    }

snoc_other : (l : List ℕ) (v n : ℕ) → (n ≡ length l → ⊥) → get_or (l ++ (v ∷ [])) n 0 ≡ get_or l n 0
snoc_other [] v zero h = absurd (h refl)
snoc_other [] v (suc n) h = refl
snoc_other (a ∷ l) v zero h = refl
snoc_other (a ∷ l) v (suc n) h = snoc_other l v n (λ e. h (ap suc e))

-- a byte that is stored at the end of l
pub shows_more : {l b : List ℕ} {at : ℕ} (j v : ℕ) → j < 64 → at + j ≡ length l → Shows l b at → Shows (l ++ (v ∷ [])) (set b j v) at
shows_more {l} {b} {at} j v lt e s =
    record {
      long = length-set b j v ∙ s.long;
      same =
          λ k kt. ⊎_elim
          (λ q. ap (λ (n : ℕ). get_or (set b j v) n 0) q ∙ get_or-set_same b j v 0 (omega arith) ∙ sym (get_or_at l v [] 0 (at + k) (omega arith)))
          (λ f. get_or-set_other b j k v 0 f ∙ s.same k kt ∙ sym (snoc_other l v (at + k) (λ q. f (omega arith))))
          (cases_eq k j);
    }

zeros_behind : (l : List ℕ) (z n : ℕ) → get_or (l ++ replicate z 0) n 0 ≡ get_or l n 0
zeros_behind [] zero n = refl
zeros_behind [] (suc z) zero = refl
zeros_behind [] (suc z) (suc n) = zeros_behind [] z n
zeros_behind (a ∷ l) z zero = refl
zeros_behind (a ∷ l) z (suc n) = zeros_behind l z n

-- the padding bits, once the one bit is there
pub shows_bits : (m : List ℕ) {b : List ℕ} {at : ℕ} → Shows (m ++ (128 ∷ [])) b at → Shows (with_bits m) b at
unfolding with_bits
shows_bits m {b} {at} s =
    let z : ℕ = zeros (length m) in
    subst (λ (l : List ℕ). Shows l b at) (append_assoc m (128 ∷ []) (replicate z 0))
    (record { long = s.long; same = λ j lt. s.same j lt ∙ sym (zeros_behind (m ++ (128 ∷ [])) z (at + j)) })

-- bytes that are appended in a later block
pub shows_later : {l b : List ℕ} {at : ℕ} (m : List ℕ) → at + 64 ≤ length l → Shows l b at → Shows (l ++ m) b at
shows_later {l} {b} {at} m h s =
    record { long = s.long; same = λ j lt. s.same j lt ∙ sym (get_or-append l m 0 (at + j) (omega arith)) }

-- and in an earlier one
pub shows_earlier : {l b : List ℕ} {at : ℕ} (m : List ℕ) → length l + length m ≤ at → Shows l b at → Shows (l ++ m) b at
shows_earlier {l} {b} {at} m h s =
    record {
      long = s.long;
      same = λ j lt. s.same j lt ∙ get_or-eq_default l 0 (omega arith) ∙ sym (get_or-eq_default (l ++ m) 0 (omega (arith, length-append l m)));
    }

-- a list that is appended byte by byte: none of it
pub shows_first : {b : List ℕ} {at : ℕ} (l : List ℕ) → Shows l b at → Shows (l ++ []) b at
shows_first {b} {at} l s = subst (λ (t : List ℕ). Shows t b at) (sym (append-nil l)) s

-- and its next byte
pub shows_next : {b : List ℕ} {at : ℕ} (l m : List ℕ) (k j : ℕ) → k < length m → j < 64 → at + j ≡ length l + k
    → Shows (l ++ take k m) b at → Shows (l ++ take (k + 1) m) (set b j (get_or m k 0)) at
shows_next {b} {at} l m k j lm lj e s =
    subst (λ (t : List ℕ). Shows t (set b j (get_or m k 0)) at)
    (append_assoc l (take k m) (get_or m k 0 ∷ []) ∙ ap (λ (t : List ℕ). l ++ t) (sym (take-suc m k 0 lm) ∙ ap (λ (n : ℕ). take n m) (sym (add-one k))))
    (shows_more j (get_or m k 0) lj (omega (arith, length-append l (take k m), length-take-le k m (omega arith))) s)

-- a list v of n bytes that is stored at the end of l
pub shows_put : {l b m : List ℕ} {at : ℕ} (k n : ℕ) (v : List ℕ) → length v ≡ n → k + n ≤ 64 → at + k ≡ length l → l ++ v ≡ m
    → Shows l b at → Shows m (put_mid k n b v) at
shows_put {l} {b} {m} {at} k n v c h e f s =
    subst (λ (t : List ℕ). Shows t (put_mid k n b v) at) f
    (record { long = simp (length-append, length-take, length-drop, s.long) (omega arith); same = same }) where
      start : length (take k b) ≡ k
      start = length-take-le k b (omega (arith, s.long))

      post : List ℕ
      post = drop n (drop k b)

      behind : (i : ℕ) → k + i < 64 → (i < n) ⊎ (n ≤ i) → get_or (v ++ post) i 0 ≡ get_or v i 0
      behind i lt (inl p) = get_or-append v post 0 i (omega arith)
      behind i lt (inr q) =
          get_or-append_right v post n i 0 c q
          ∙ get_or-drop n (drop k b) (i - n) 0 ∙ get_or-drop k b (n + (i - n)) 0
          ∙ s.same (k + (n + (i - n))) (omega arith)
          ∙ get_or-eq_default l 0 (omega arith) ∙ sym (get_or-eq_default v 0 (omega arith))

      same : (j : ℕ) → j < 64 → get_or (put_mid k n b v) j 0 ≡ get_or (l ++ v) (at + j) 0
      same j lt =
          ⊎_elim
          (λ p. get_or-append (take k b) (v ++ post) 0 j (omega (arith, start)) ∙ get_or-take k b j 0 p ∙ s.same j lt
          ∙ sym (get_or-append l v 0 (at + j) (omega arith)))
          (λ q. get_or-append_right (take k b) (v ++ post) k j 0 start q ∙ behind (j - k) (omega arith) (cases_lt (j - k) n)
          ∙ sym (get_or-append_right l v (length l) (at + j) 0 refl (omega arith) ∙ ap (λ (n : ℕ). get_or v n 0) (omega arith)))
          (cases_lt j k)

-- a block within l
pub shows_block : {b : List ℕ} (l : List ℕ) (i : ℕ) → 64 * i + 64 ≤ length l → Shows l b (64 * i) → b ≡ block l i
unfolding block
shows_block {b} l i h s =
    ext_get_or 0 b (take 64 (drop (64 * i) l)) (s.long ∙ sym (block_length l i h))
    (λ j lt. s.same j (omega arith) ∙ sym (get_or-take 64 (drop (64 * i) l) j 0 (omega arith) ∙ get_or-drop (64 * i) l j 0))
