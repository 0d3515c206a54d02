-- Laws of words and of a block's operations.
-- Assumes nothing.
use Rattle.std.proofs.Common.{◌≡◌, ℕ, zero, suc, ◌+◌, ◌-◌, ◌*◌, ◌/◌, ◌%◌, ◌^◌, ◌<◌, ◌≤◌, true, List, [], ◌∷◌, length, get_or, take, drop, sym, refl, ap, ◌∙◌, subst, ap₂, le_of_suc-le-suc, not-suc-le-zero, add-zero, add-one, arith, rules, shr_lt}
use Rattle.std.proofs.Math.Seq.{drop-cons}
use Rattle.std.proofs.Math.ListN.{drop_of_length-le}
use native.Mathlib.Nat.{mul-mod_left}
use lib.Bits.{bit_or, or_shifted}
use Rattle.std.specs.Int.{w32, rotate_left}
use Rattle.md5_digest.specs.Md5.{◌⊞◌, ◌<<<◌, operations, run, add}
use Rattle.md5_digest.specs.Step.{Entry, IsOperation, are_operations, does, listed}
use Rattle.md5_digest.specs.declared.step.State.{State}
use lib.Pow.{mod-pow-add, shl-shr}

-- what a shift to the left leaves is a multiple of 2 ^ k
shl_is : (x j k : ℕ) → (x * 2 ^ k) % 2 ^ (j + k) ≡ (x % 2 ^ j) * 2 ^ k
shl_is x j k =
    mod-pow-add (x * 2 ^ k) j k
    ∙ ap₂ (λ (m n : ℕ). (m % 2 ^ j) * 2 ^ k + n) (shl-shr x k) (mul-mod_left x (2 ^ k))
    ∙ add-zero ((x % 2 ^ j) * 2 ^ k)

halves : (x j k : ℕ) → x < 2 ^ (k + j) → bit_or ((x * 2 ^ k) % 2 ^ (j + k)) (x / 2 ^ j) ≡ (x * 2 ^ k) % 2 ^ (j + k) + x / 2 ^ j
halves x j k h =
    ap (λ (n : ℕ). bit_or n (x / 2 ^ j)) (shl_is x j k)
    ∙ or_shifted (x % 2 ^ j) k (x / 2 ^ j) (shr_lt k j h)
    ∙ ap (λ (n : ℕ). n + x / 2 ^ j) (sym (shl_is x j k))

-- the two shifts of a rotation share no bit
pub shifts_apart : (x k : ℕ) → x < 2 ^ 32 → k < 32 → bit_or ((x * 2 ^ k) % 2 ^ 32) (x / 2 ^ (32 - k)) ≡ (x * 2 ^ k) % 2 ^ 32 + x / 2 ^ (32 - k)
shifts_apart x k h b =
    let e : (32 - k) + k ≡ 32 = omega arith in
    let f : k + (32 - k) ≡ 32 = omega arith in
    subst (λ (n : ℕ). bit_or ((x * 2 ^ k) % 2 ^ n) (x / 2 ^ (32 - k)) ≡ (x * 2 ^ k) % 2 ^ n + x / 2 ^ (32 - k)) e
    (halves x (32 - k) k (subst (λ (n : ℕ). x < 2 ^ n) (sym f) h))

-- the two shifts of a rotation share no bit, so that their `|` is a sum
pub rotated : (x k : ℕ) → x < 2 ^ 32 → 0 < k → k < 32 → rotate_left w32 x k ≡ x <<< k
unfolding ◌<<<◌
rotated x k h low b =
    let e : (32 - k) + k ≡ 32 = omega arith in
    let f : k + (32 - k) ≡ 32 = omega arith in
    ap₂ (λ (m n : ℕ). bit_or ((x * 2 ^ m) % 2 ^ 32) (x / 2 ^ n)) (omega arith) (omega arith)
    ∙ subst (λ (n : ℕ). bit_or ((x * 2 ^ k) % 2 ^ n) (x / 2 ^ (32 - k)) ≡ (x * 2 ^ k) % 2 ^ n + x / 2 ^ (32 - k)) e
    (halves x (32 - k) k (subst (λ (n : ℕ). x < 2 ^ n) (sym f) h))

-- each operation of a table is one
pub operation_at : (os : List Entry) (d : Entry) → are_operations os ≡ true → (j : ℕ) → j < length os → IsOperation (get_or os j d)
operation_at [] d e j h = absurd (omega arith)
operation_at (o ∷ os) d e zero h = search rules
operation_at (o ∷ os) d e (suc j) h = operation_at os d (search rules) j (omega arith)

-- the operations from j on are the one at j and those behind it
pub run_next : (m : ℕ → ℕ → ℕ → ℕ) (os : List Entry) (d : Entry) (j : ℕ) (x : List ℕ) (w : State) → j < length os
    → {v : State} → v ≡ does m (get_or os j d) x w → run x (listed m (drop (j + 1) os)) v ≡ run x (listed m (drop j os)) w
unfolding run
run_next m os d j x w h e = rw (add-one j, drop-cons os j d h) (ap (run x (listed m (drop (suc j) os))) e)

pub run_end : (m : ℕ → ℕ → ℕ → ℕ) (os : List Entry) (j : ℕ) (x : List ℕ) (w : State) → length os ≤ j → run x (listed m (drop j os)) w ≡ w
unfolding run
run_end m os j x w h = rw (drop_of_length-le os h) refl

-- one operation more is done last
pub run_more : (x : List ℕ) (n : ℕ) (os : List (List ℕ → State → State)) (w : State) → n < length os
    → run x (take (suc n) os) w ≡ get_or os n (λ y v. v) x (run x (take n os) w)
unfolding run
run_more x n [] w h = absurd (not-suc-le-zero h)
run_more x zero (o ∷ os) w h = refl
run_more x (suc n) (o ∷ os) w h = run_more x n os (o x w) (le_of_suc-le-suc h)

-- the block x is whole, and s is what the operations before operation i make of start
pub record Before (x : List ℕ) (i : ℕ) (start s : State) : Type 0 where
  pub whole : 64 ≤ length x
  pub is : s ≡ run x (take (i - 1) operations) start

-- after operation i comes operation i + 1
pub next : {x : List ℕ} {i : ℕ} {o : List ℕ → State → State} {start s r : State} → 0 < i → i < 65 → Before x i start s → get_or operations (i - 1) (λ y v. v) ≡ o → r ≡ o x s
    → Before x (i + 1) start r
next {x} {i} {o} {start} {s} {r} lo hi h l e =
    let n : i + 1 - 1 ≡ suc (i - 1) = omega arith in
    let m : run x (take (suc (i - 1)) operations) start ≡ o x s =
    run_more x (i - 1) operations start (omega arith) ∙ ap (λ (f : List ℕ → State → State). f x (run x (take (i - 1) operations) start)) l ∙ ap (o x) (sym h.is) in
    record { whole = h.whole; is = e ∙ sym (ap (λ (j : ℕ). run x (take j operations) start) n ∙ m) }

-- the four sums after a block
pub added : (v w : State) {a b c d : ℕ} → a ≡ v.a ⊞ w.a → b ≡ v.b ⊞ w.b → c ≡ v.c ⊞ w.c → d ≡ v.d ⊞ w.d
    → record { a = a; b = b; c = c; d = d } ≡ add v w
unfolding add
added v w p q r s = λ i. record { a = p i; b = q i; c = r i; d = s i }
