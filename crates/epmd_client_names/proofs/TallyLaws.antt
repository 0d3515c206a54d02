-- Laws of tallies: of a union, of one more line. Assumes nothing.
use Prim.Native.Nat.{ℕ, ◌+◌, ◌≤◌, ◌<◌}
use mathlib.Core.Path.{◌≡◌, refl, sym, ap, ◌∙◌, subst}
use mathlib.Core.Logic.{⊎_elim, ◌⊎◌, inl, inr}
use mathlib.Core.Bool.{Bool, true, false, cond}
use mathlib.Core.List.{List, ◌∷◌}
use native.Mathlib.Omega.{arith}
use lib.ListN.{length}
use lib.Dec.{ltb, leb}
use borrow.Author.Tests.{ltb-true, ltb-false, leb-true, leb-false, lt-ltb, le-ltb}
use Rattle.std.specs.Prelude.{Option, Some, None}
use Rattle.epmd_client_rules.specs.Readings.{Line, most}
use Rattle.epmd_client_names.specs.declared.tally.Tally.{Tally}
use Rattle.epmd_client_names.specs.declared.tally.Tally.TheVariants as tally
use Rattle.epmd_client_names.specs.Tallies.{Set, Over, Means, fewest_of, beaten_of, several_of, join_by, join_of, longer_of}

-- the same readings, the same tally
pub same : (P Q : Set) → ((x : List Line) → P x → Q x) → ((x : List Line) → Q x → P x) → (t : Tally) → Means P t → Means Q t
same P Q f g tally.Nothing m = λ x q. m x (g x q)
same P Q f g tally.Over m = (m.0, f _ m.1, λ y q. m.2 y (g y q))
same P Q f g (tally.One k) m = ((m.0.0, f _ m.0.1, m.0.2, λ y q. m.0.3 y (g y q)), m.1)
same P Q f g (tally.Least k) m = ((m.0.0, f _ m.0.1, m.0.2, (λ y q h. m.0.3 y (g y q) h), m.0.4, f _ m.0.5, m.0.6), m.1)
same P Q f g (tally.Several k) m = ((m.0.0, m.0.1, f _ m.0.2, f _ m.0.3, m.0.4, m.0.5, m.0.6, λ z q. m.0.7 z (g z q)), m.1)

-- ---- the fewest lines

pub same_number : (i k : ℕ) → ◌≡◌ {A = Option ℕ} (Some i) (Some k) → i ≡ k
same_number i k e = cc

pub no_number : (k : ℕ) → ◌≡◌ {A = Option ℕ} None (Some k) → ⊥
no_number k e = let z : ◌≡◌ {A = ℕ} 0 1 = cc in omega arith

some_number : (k : ℕ) → ◌≡◌ {A = Option ℕ} (Some k) None → ⊥
some_number k e = no_number k (sym e)

-- a reading with the fewest lines
abbrev pub Fewest : Set → ℕ → Type 0
Fewest P k = (x : List Line) × P x × (length x ≡ k) × ((y : List Line) → P y → k ≤ length y)

-- some reading, and none with fewer lines
abbrev pub AtLeast : Set → ℕ → Type 0
AtLeast P k = (x : List Line) × P x × ((y : List Line) → P y → k ≤ length y)

module _ (P : Set) where
  pub nothing : (t : Tally) → Means P t → fewest_of t ≡ None → (x : List Line) → P x → ⊥
  nothing tally.Nothing m e = m
  nothing tally.Over m e = absurd (some_number (most + 1) e)
  nothing (tally.One k) m e = absurd (some_number k e)
  nothing (tally.Least k) m e = absurd (some_number k e)
  nothing (tally.Several k) m e = absurd (some_number k e)

  pub fewest : (t : Tally) (k : ℕ) → Means P t → fewest_of t ≡ Some k → k ≤ most → Fewest P k
  fewest tally.Nothing k m e h = absurd (no_number k e)
  fewest tally.Over k m e h = absurd (omega (arith, same_number (most + 1) k e))
  fewest (tally.One n) k m e h = subst (Fewest P) (same_number n k e) (m.0.0, m.0.1, m.0.2, λ y q. omega (arith, ap length (m.0.3 y q), m.0.2))
  fewest (tally.Least n) k m e h = subst (Fewest P) (same_number n k e) (m.0.0, m.0.1, m.0.2, λ y q. by y q (leb (length y) n) refl) where
    by : (y : List Line) → P y → (t : Bool) → leb (length y) n ≡ t → n ≤ length y
    by y q true f = omega (arith, ap length (m.0.3 y q (leb-true (length y) n f)), m.0.2)
    by y q false f = omega (arith, leb-false (length y) n f)
  fewest (tally.Several n) k m e h = subst (Fewest P) (same_number n k e) (m.0.0, m.0.2, m.0.4, m.0.7)

  of_fewest : (k : ℕ) → Fewest P k → AtLeast P k
  of_fewest k f = (f.0, f.1, f.3)

  pub at_least : (t : Tally) (k : ℕ) → Means P t → fewest_of t ≡ Some k → AtLeast P k
  at_least tally.Nothing k m e = absurd (no_number k e)
  at_least tally.Over k m e = (m.0, m.1, λ y q. omega (arith, m.2 y q, same_number (most + 1) k e))
  at_least (tally.One n) k m e = of_fewest k (fewest (tally.One n) k m e (omega (arith, m.1, same_number n k e)))
  at_least (tally.Least n) k m e = of_fewest k (fewest (tally.Least n) k m e (omega (arith, m.1, same_number n k e)))
  at_least (tally.Several n) k m e = of_fewest k (fewest (tally.Several n) k m e (omega (arith, m.1, same_number n k e)))

  high : (t : Tally) (k : ℕ) → Means P t → fewest_of t ≡ Some k → k ≤ most + 1
  high tally.Nothing k m e = absurd (no_number k e)
  high tally.Over k m e = omega (arith, same_number (most + 1) k e)
  high (tally.One n) k m e = omega (arith, m.1, same_number n k e)
  high (tally.Least n) k m e = omega (arith, m.1, same_number n k e)
  high (tally.Several n) k m e = omega (arith, m.1, same_number n k e)

-- ---- of two sets that have no reading in common

module _ (P Q : Set) where
  abbrev pub Or : Set
  Or x = P x ⊎ Q x

  -- those of the first have fewer lines
  under : (t : Tally) (i j : ℕ) → Means P t → fewest_of t ≡ Some i → AtLeast Q j → i < j → j ≤ most + 1 → Means Or (beaten_of t)
  under tally.Nothing i j m e l h f = absurd (no_number i e)
  under tally.Over i j m e l h f = absurd (omega (arith, same_number (most + 1) i e))
  under (tally.One k) i j m e l h f =
      let q : k ≡ i = same_number k i e in (
        (
          m.0.0,
          inl m.0.1,
          m.0.2,
          (λ y o g. ⊎_elim (λ p. m.0.3 y p) (λ p. absurd (omega (arith, l.2 y p))) o),
          l.0,
          inr l.1,
          omega (arith, l.2 l.0 l.1),
        ),
        m.1,
      )
  under (tally.Least k) i j m e l h f =
      let q : k ≡ i = same_number k i e in (
        (m.0.0, inl m.0.1, m.0.2, (λ y o g. ⊎_elim (λ p. m.0.3 y p g) (λ p. absurd (omega (arith, l.2 y p))) o), m.0.4, inl m.0.5, m.0.6),
        m.1,
      )
  under (tally.Several k) i j m e l h f =
      let q : k ≡ i = same_number k i e in (
        (m.0.0, m.0.1, inl m.0.2, inl m.0.3, m.0.4, m.0.5, m.0.6, λ z o. ⊎_elim (λ p. m.0.7 z p) (λ p. omega (arith, l.2 z p)) o),
        m.1,
      )

  -- as many
  level : (a b : Tally) (k : ℕ) → Means P a → Means Q b → fewest_of a ≡ Some k → fewest_of b ≡ Some k → ((x : List Line) → P x → Q x → ⊥) → Means Or (several_of k)
  level a b k m w e f apart = by (ltb most k) refl where
    by : (t : Bool) → ltb most k ≡ t → Means Or (cond t tally.Over (tally.Several k))
    by true g =
        let i : AtLeast P k = at_least P a k m e in
        let j : AtLeast Q k = at_least Q b k w f in
        let l : most < k = ltb-true most k g in
        (i.0, inl i.1, λ y o. ⊎_elim (λ p. omega (arith, i.2 y p)) (λ q. omega (arith, j.2 y q)) o)
    by false g =
        let l : k ≤ most = ltb-false most k g in
        let i : Fewest P k = fewest P a k m e l in
        let j : Fewest Q k = fewest Q b k w f l in
        ((i.0, j.0, inl i.1, inr j.1, i.2, j.2, (λ q. apart j.0 (subst P q i.1) j.1), λ z o. ⊎_elim (λ p. i.3 z p) (λ q. j.3 z q) o), l)

swap : (P Q : Set) (t : Tally) → Means (Or Q P) t → Means (Or P Q) t
swap P Q t m = same (Or Q P) (Or P Q) (λ x o. ⊎_elim (λ q. inr q) (λ p. inl p) o) (λ x o. ⊎_elim (λ q. inr q) (λ p. inl p) o) t m

module _ (P Q : Set) (a b : Tally) (m : Means P a) (w : Means Q b) (apart : (x : List Line) → P x → Q x → ⊥) where
  both : (i k : ℕ) → fewest_of a ≡ Some i → fewest_of b ≡ Some k → (t u : Bool) → ltb i k ≡ t → ltb k i ≡ u
      → Means (Or P Q) (cond t (beaten_of a) (cond u (beaten_of b) (several_of i)))
  both i k e f true u g h = under P Q a i k m e (at_least Q b k w f) (ltb-true i k g) (high Q b k w f)
  both i k e f false true g h = swap P Q (beaten_of b) (under Q P b k i w f (at_least P a i m e) (ltb-true k i h) (high P a i m e))
  both i k e f false false g h =
      let q : k ≡ i = omega (arith, ltb-false i k g, ltb-false k i h) in
      level P Q a b i m w e (f ∙ ap (λ (n : ℕ). Some n) q) apart

  pub joined : Means (Or P Q) (join_of a b)
  unfolding join_of
  joined = by (fewest_of a) (fewest_of b) refl refl where
    by : (x y : Option ℕ) → fewest_of a ≡ x → fewest_of b ≡ y → Means (Or P Q) (join_by x y a b)
    by None y e f = same Q (Or P Q) (λ x q. inr q) (λ x o. ⊎_elim (λ p. absurd (nothing P a m e x p)) (λ q. q) o) b w
    by (Some i) None e f = same P (Or P Q) (λ x p. inl p) (λ x o. ⊎_elim (λ p. p) (λ q. absurd (nothing Q b w f x q)) o) a m
    by (Some i) (Some k) e f = both i k e f (ltb i k) (ltb k i) refl refl

-- those of the second have fewer lines
pub join_more : (a b : Tally) (i k : ℕ) → fewest_of a ≡ Some i → fewest_of b ≡ Some k → k < i → join_of a b ≡ beaten_of b
unfolding join_of
join_more a b i k e f l = rw (e, f, le-ltb i k (omega arith), lt-ltb k i l)

-- no more lines than the larger number
module _ (m : ℕ) where
  abbrev pub AtMost : Tally → Type 0
  AtMost t = (k : ℕ) → fewest_of t ≡ Some k → k ≤ m

  beaten_lines : (t : Tally) → AtMost t → AtMost (beaten_of t)
  beaten_lines tally.Nothing f = f
  beaten_lines tally.Over f = f
  beaten_lines (tally.One k) f = f
  beaten_lines (tally.Least k) f = f
  beaten_lines (tally.Several k) f = f

  several_lines : (i : ℕ) → i ≤ m → AtMost (several_of i)
  several_lines i h = by (ltb most i) refl where
    by : (t : Bool) → ltb most i ≡ t → AtMost (cond t tally.Over (tally.Several i))
    by true g k e = omega (arith, same_number (most + 1) k e, ltb-true most i g)
    by false g k e = omega (arith, same_number i k e)

  either_lines : (t : Bool) (a b : Tally) → AtMost a → AtMost b → AtMost (cond t a b)
  either_lines true a b f g = f
  either_lines false a b f g = g

  pub join_lines : (a b : Tally) → AtMost a → AtMost b → AtMost (join_of a b)
  unfolding join_of
  join_lines a b f g = by (fewest_of a) (fewest_of b) refl where
    by : (x y : Option ℕ) → fewest_of a ≡ x → AtMost (join_by x y a b)
    by None y e = g
    by (Some i) None e = f
    by (Some i) (Some k) e =
        either_lines (ltb i k) (beaten_of a) _ (beaten_lines a f)
        (either_lines (ltb k i) (beaten_of b) (several_of i) (beaten_lines b g) (several_lines i (f i e)))

-- ---- one more line in front of each

module _ (P : Set) (l : Line) where
  abbrev Later : Set
  Later x = (y : List Line) × P y × (x ≡ l ∷ y)

  tail_same : (a b : List Line) → l ∷ a ≡ l ∷ b → a ≡ b
  tail_same a b e = cc

  -- where the fewest had 64
  too_many : (k : ℕ) → Fewest P k → most ≤ k → Over Later
  too_many k f h = (l ∷ f.0, (f.0, f.1, refl), λ y q. omega (arith, f.3 q.0 q.1, ap length q.2))

  pub later : (t : Tally) → Means P t → Means Later (longer_of t)
  later tally.Nothing m = λ x q. m q.0 q.1
  later tally.Over m = (l ∷ m.0, (m.0, m.1, refl), λ y q. omega (arith, m.2 q.0 q.1, ap length q.2))
  later (tally.One k) m = by (ltb k most) refl where
    by : (t : Bool) → ltb k most ≡ t → Means Later (cond t (tally.One (k + 1)) tally.Over)
    by true e = (
      (
        l ∷ m.0.0,
        (m.0.0, m.0.1, refl),
        omega (arith, m.0.2),
        λ y q. q.2 ∙ ap (λ (t : List Line). l ∷ t) (m.0.3 q.0 q.1),
      ),
      omega (arith, ltb-true k most e),
    )
    by false e = too_many k (fewest P (tally.One k) k m refl m.1) (ltb-false k most e)
  later (tally.Least k) m = by (ltb k most) refl where
    by : (t : Bool) → ltb k most ≡ t → Means Later (cond t (tally.Least (k + 1)) tally.Over)
    by true e = (
      (
        l ∷ m.0.0,
        (m.0.0, m.0.1, refl),
        omega (arith, m.0.2),
        (λ y q h. q.2 ∙ ap (λ (t : List Line). l ∷ t) (m.0.3 q.0 q.1 (omega (arith, ap length q.2)))),
        l ∷ m.0.4,
        (m.0.4, m.0.5, refl),
        omega (arith, m.0.6),
      ),
      omega (arith, ltb-true k most e),
    )
    by false e = too_many k (fewest P (tally.Least k) k m refl m.1) (ltb-false k most e)
  later (tally.Several k) m = by (ltb k most) refl where
    by : (t : Bool) → ltb k most ≡ t → Means Later (cond t (tally.Several (k + 1)) tally.Over)
    by true e = (
      (
        l ∷ m.0.0,
        l ∷ m.0.1,
        (m.0.0, m.0.2, refl),
        (m.0.1, m.0.3, refl),
        omega (arith, m.0.4),
        omega (arith, m.0.5),
        (λ q. m.0.6 (tail_same m.0.0 m.0.1 q)),
        λ z q. omega (arith, ap length q.2, m.0.7 q.0 q.1),
      ),
      omega (arith, ltb-true k most e),
    )
    by false e = too_many k (fewest P (tally.Several k) k m refl m.1) (ltb-false k most e)
