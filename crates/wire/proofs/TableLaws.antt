-- Laws of parts of what was overwritten, and of a table of records in bytes: a record is read where it lies, and overwriting it changes it alone.
-- Assumes nothing.
use Prim.Native.Nat.{ℕ, zero, suc, ◌+◌, ◌-◌, ◌*◌, ◌≤◌, ◌<◌}
use mathlib.Core.Path.{◌≡◌, refl, sym, ◌∙◌, ap, ap₂, subst}
use mathlib.Core.List.{List, [], ◌∷◌, ◌++◌, append_assoc}
use native.Mathlib.Nat.{suc-mul, zero-mul, mul-le-mul_right}
use native.Mathlib.Omega.{arith}
use lib.ListN.{length, get_or, set, take, drop, replicate, length-append, take-append-drop, drop_of_length-le}
use lib.Seq.{length-take-le, drop-drop}
use Rattle.wire.specs.Run.{part}
use Rattle.wire.specs.Output.{overwrite}
use Rattle.wire.specs.Table.{table, table_bytes, Each}
use Rattle.wire.proofs.RunLaws.{part_behind}

-- ---- parts of what was overwritten: before it, behind it, and there

front : (m a : ℕ) (b x : List ℕ) → m ≤ a → a ≤ length b → take m (take a b ++ x) ≡ take m b
front zero a b x h k = refl
front (suc m) zero b x h k = absurd (omega arith)
front (suc m) (suc a) [] x h k = absurd (omega arith)
front (suc m) (suc a) (y ∷ b) x h k = ap (λ (r : List ℕ). y ∷ r) (front m a b x (omega arith) (omega arith))

before : (o m a : ℕ) (b x : List ℕ) → o + m ≤ a → a ≤ length b → take m (drop o (take a b ++ x)) ≡ take m (drop o b)
before zero m a b x h k = front m a b x (omega arith) k
before (suc o) m zero b x h k = absurd (omega arith)
before (suc o) m (suc a) [] x h k = absurd (omega arith)
before (suc o) m (suc a) (y ∷ b) x h k = before o m a b x (omega arith) (omega arith)

over : (o k : ℕ) (r b : List ℕ) → k ≡ length r → k ≤ o → k ≤ length b → drop o (r ++ drop k b) ≡ drop o b
over o zero [] b e h l = refl
over o (suc k) [] b e h l = absurd (omega (arith, e))
over o zero (x ∷ r) b e h l = absurd (omega (arith, e))
over zero (suc k) (x ∷ r) b e h l = absurd (omega arith)
over (suc o) (suc k) (x ∷ r) [] e h l = absurd (omega arith)
over (suc o) (suc k) (x ∷ r) (y ∷ b) e h l = over o k r b (omega (arith, e)) (omega arith) (omega arith)

after : (o a k : ℕ) (r b : List ℕ) → k ≡ a + length r → k ≤ o → k ≤ length b → drop o (take a b ++ (r ++ drop k b)) ≡ drop o b
after o zero k r b e h l = over o k r b (omega (arith, e)) h l
after zero (suc a) k r b e h l = absurd (omega (arith, e))
after (suc o) (suc a) zero r b e h l = absurd (omega (arith, e))
after (suc o) (suc a) (suc k) r [] e h l = absurd (omega arith)
after (suc o) (suc a) (suc k) r (y ∷ b) e h l = after o a k r b (omega (arith, e)) (omega arith) (omega arith)

pub part_before : (o m a : ℕ) (b r : List ℕ) → o + m ≤ a → a ≤ length b → part o m (overwrite b a r) ≡ part o m b
unfolding part overwrite
part_before o m a b r h k = before o m a b (r ++ drop (a + length r) b) h k

pub part_after : (o m a : ℕ) (b r : List ℕ) → a + length r ≤ o → a + length r ≤ length b → part o m (overwrite b a r) ≡ part o m b
unfolding part overwrite
part_after o m a b r h k = ap (take m) (after o a (a + length r) r b refl h k)

pub part_there : (n a : ℕ) (b r : List ℕ) → length r ≡ n → a ≤ length b → part a n (overwrite b a r) ≡ r
unfolding overwrite
part_there n a b r e k = part_behind (take a b) r (drop (a + length r) b) a n (length-take-le a b k) e

-- a part is the front of a longer one
pub take_within : (n m : ℕ) (l : List ℕ) → n ≤ m → take n l ≡ take n (take m l)
take_within zero m l h = refl
take_within (suc n) zero l h = absurd (omega arith)
take_within (suc n) (suc m) [] h = refl
take_within (suc n) (suc m) (x ∷ l) h = ap (λ (r : List ℕ). x ∷ r) (take_within n m l (omega arith))

pub part_within : (o n m : ℕ) (b : List ℕ) → n ≤ m → part o n b ≡ take n (part o m b)
unfolding part
part_within o n m b h = take_within n m (drop o b) h

-- a part of zeros
zeros_behind : (k n m : ℕ) → m ≡ k + n → drop k (replicate {A = ℕ} m 0) ≡ replicate n 0
zeros_behind zero n m h =
    let e : m ≡ n = omega (arith, h) in
    ap (λ (j : ℕ). replicate j 0) e
zeros_behind (suc k) n zero h = absurd (omega (arith, h))
zeros_behind (suc k) n (suc m) h = zeros_behind k n m (omega (arith, h))

zeros_front : (k m : ℕ) → k ≤ m → take k (replicate {A = ℕ} m 0) ≡ replicate k 0
zeros_front zero m h = refl
zeros_front (suc k) zero h = absurd (omega arith)
zeros_front (suc k) (suc m) h = ap (λ (l : List ℕ). 0 ∷ l) (zeros_front k m (omega arith))

pub zeros_part : (o n m : ℕ) → o + n ≤ m → part o n (replicate m 0) ≡ replicate n 0
unfolding part
zeros_part o n m h =
    let e : m ≡ o + (m - o) = omega arith in
    ap (take n) (zeros_behind o (m - o) m e) ∙ zeros_front n (m - o) (omega arith)

-- ---- records

module _ {A : Type 0} (read : List ℕ → A) (w : ℕ) where
  pub table_count : (n o : ℕ) (b : List ℕ) → length (table read w n o b) ≡ n
  unfolding table
  table_count zero o b = refl
  table_count (suc n) o b = ap suc (table_count n (o + w) b)

  -- record i
  pub table_at : (n o i a : ℕ) (b : List ℕ) (d : A) → i < n → a ≡ o + i * w → get_or (table read w n o b) i d ≡ read (part a w b)
  unfolding table
  table_at zero o i a b d h e = absurd (omega arith)
  table_at (suc n) o zero a b d h e = ap (λ (k : ℕ). read (part k w b)) (omega (arith, e, zero-mul w))
  table_at (suc n) o (suc i) a b d h e = table_at n (o + w) i a b d (omega arith) (omega (arith, e, suc-mul i w))

  -- what lies before a table does not touch it
  pub table_after : (n o a : ℕ) (b r : List ℕ) → a + length r ≤ o → a + length r ≤ length b → table read w n o (overwrite b a r) ≡ table read w n o b
  unfolding table
  table_after zero o a b r h k = refl
  table_after (suc n) o a b r h k =
      ap₂ (λ (x : A) (l : List A). x ∷ l) (ap read (part_after o w a b r h k)) (table_after n (o + w) a b r (omega arith) k)

  -- record i overwritten: that record is set, and every other is kept
  pub table_set : (n o i a : ℕ) (b r : List ℕ) → i < n → a ≡ o + i * w → length r ≡ w → o + n * w ≤ length b
      → table read w n o (overwrite b a r) ≡ set (table read w n o b) i (read r)
  unfolding table
  table_set zero o i a b r h e l k = absurd (omega arith)
  table_set (suc n) o zero a b r h e l k =
      let same : o ≡ a = omega (arith, e, zero-mul w) in
      let room : o + w ≤ length b = omega (arith, k, suc-mul n w) in
      ap₂ (λ (x : A) (s : List A). x ∷ s)
      (ap read (ap (λ (j : ℕ). part j w (overwrite b a r)) same ∙ part_there w a b r l (omega (arith, same, room))))
      (table_after n (o + w) a b r (omega (arith, same, l)) (omega (arith, same, l, room)))
  table_set (suc n) o (suc i) a b r h e l k =
      let up : suc i * w ≡ i * w + w = suc-mul i w in
      let far : i * w ≤ n * w = mul-le-mul_right w (omega arith) in
      ap₂ (λ (x : A) (s : List A). x ∷ s)
      (ap read (part_before o w a b r (omega (arith, e, up)) (omega (arith, e, up, far, k, suc-mul n w))))
      (table_set n (o + w) i a b r (omega arith) (omega (arith, e, up)) l (omega (arith, k, suc-mul n w)))

  -- zeros hold what a record of zeros is read as, over and over
  pub table_zeros : (z : A) → read (replicate w 0) ≡ z → (n o m : ℕ) → o + n * w ≤ m → table read w n o (replicate m 0) ≡ replicate n z
  unfolding table
  table_zeros z e zero o m h = refl
  table_zeros z e (suc n) o m h =
      ap₂ (λ (x : A) (l : List A). x ∷ l)
      (ap read (zeros_part o w m (omega (arith, h, suc-mul n w))) ∙ e)
      (table_zeros z e n (o + w) m (omega (arith, h, suc-mul n w)))

-- ---- what was written is read back, and what was read is what would be written

module _ {A : Type 0} (read : List ℕ → A) (write : A → List ℕ) (w : ℕ) where
  -- a record that has its width and is read back
  abbrev pub Kept : A → Type 0
  Kept x = (length (write x) ≡ w) × (read (write x) ≡ x)

  pub table_back : (xs : List A) (pre : List ℕ) (o : ℕ) → length pre ≡ o → Each Kept xs → table read w (length xs) o (pre ++ table_bytes write xs) ≡ xs
  unfolding table table_bytes Each
  table_back [] pre o e h = refl
  table_back (x ∷ xs) pre o e h =
      let rest : List ℕ = table_bytes write xs in
      let q : pre ++ (write x ++ rest) ≡ (pre ++ write x) ++ rest = sym (append_assoc pre (write x) rest) in
      let l : length (pre ++ write x) ≡ o + w = omega (arith, length-append pre (write x), e, h.0.0) in
      ap₂ (λ (y : A) (ys : List A). y ∷ ys)
      (ap read (part_behind pre (write x) rest o w e h.0.0) ∙ h.0.1)
      (ap (table read w (length xs) (o + w)) q ∙ table_back xs (pre ++ write x) (o + w) l h.1)

  pub table_long : (xs : List A) → Each Kept xs → length (table_bytes write xs) ≡ length xs * w
  unfolding table_bytes Each
  table_long [] h = sym (zero-mul w)
  table_long (x ∷ xs) h = omega (arith, length-append (write x) (table_bytes write xs), h.0.0, table_long xs h.1, suc-mul (length xs) w)

  pub table_only : (n o : ℕ) (b : List ℕ) → length b ≡ o + n * w
      → ((i : ℕ) → i < n → write (read (part (o + i * w) w b)) ≡ part (o + i * w) w b) → table_bytes write (table read w n o b) ≡ drop o b
  unfolding table table_bytes part
  table_only zero o b l h =
      let short : length b ≤ o = omega (arith, l, zero-mul w) in
      sym (drop_of_length-le b short)
  table_only (suc n) o b l h =
      let z : o + 0 * w ≡ o = omega (arith, zero-mul w) in
      let first : write (read (take w (drop o b))) ≡ take w (drop o b) = subst (λ (k : ℕ). write (read (take w (drop k b))) ≡ take w (drop k b)) z (h 0 (omega arith)) in
      ap₂ (λ (x y : List ℕ). x ++ y) first
      (table_only n (o + w) b (omega (arith, l, suc-mul n w)) (λ i k. let s : o + suc i * w ≡ o + w + i * w = omega (arith, suc-mul i w) in subst (λ (j : ℕ). write (read (take w (drop j b))) ≡ take w (drop j b)) s (h (suc i) (omega arith)))
      ∙ sym (drop-drop w o b))
      ∙ take-append-drop w (drop o b)

-- ---- two lists as one

module _ {A : Type 0} where
  pub bytes_append : (write : A → List ℕ) (xs ys : List A) → table_bytes write (xs ++ ys) ≡ table_bytes write xs ++ table_bytes write ys
  unfolding table_bytes
  bytes_append write [] ys = refl
  bytes_append write (x ∷ xs) ys =
      ap (λ (l : List ℕ). write x ++ l) (bytes_append write xs ys) ∙ sym (append_assoc (write x) (table_bytes write xs) (table_bytes write ys))

  pub each_append : (P : A → Type 0) (xs ys : List A) → Each P xs → Each P ys → Each P (xs ++ ys)
  unfolding Each
  each_append P [] ys a b = b
  each_append P (x ∷ xs) ys a b = (a.0, each_append P xs ys a.1 b)

  pub each_parts : (P : A → Type 0) (xs ys : List A) → Each P (xs ++ ys) → Each P xs × Each P ys
  unfolding Each
  each_parts P [] ys a = (tt, a)
  each_parts P (x ∷ xs) ys a = let r : Each P xs × Each P ys = each_parts P xs ys a.1 in ((a.0, r.0), r.1)
