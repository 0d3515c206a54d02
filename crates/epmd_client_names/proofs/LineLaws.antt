-- A line at a place of a text. The ends of two lines do not overlap; and of two lines, one inside the other, there is a third, from the inner one's
-- start to the outer one's end. So the numbers of lines of a text's readings have no gap. Assumes nothing.
use Prim.Native.Nat.{ℕ, zero, suc, ◌+◌, ◌-◌, ◌≤◌, ◌<◌}
use mathlib.Core.Path.{◌≡◌, refl, sym, ap, ◌∙◌}
use mathlib.Core.Bool.{Bool, true, false}
use mathlib.Core.List.{List, [], ◌∷◌, ◌++◌, append_assoc}
use native.Mathlib.Omega.{arith}
use lib.ListN.{length, take, drop, get_or, length-append, length-drop, get_or-append}
use lib.Seq.{drop-append_seam, drop-append-le, drop-drop, split_at, get_or-drop}
use lib.Dec.{ltb, leb}
use borrow.Author.Tests.{ltb-true, ltb-false, leb-true, leb-false}
use Rattle.wire.specs.Decimal.{decimal}
use Rattle.wire.specs.Table.{table_bytes, Each}
use Rattle.wire.proofs.DecimalLaws.{decimal_text}
use Rattle.names.specs.Node.{node_name}
use Rattle.names.proofs.NodeLaws.{name_some, name_behind}
use Rattle.epmd_rules.specs.Replies.{name_word, line_with}
use Rattle.epmd_rules.proofs.ReplyLaws.{line_length}
use Rattle.epmd_client_rules.specs.Readings.{Line, line_text, lines_text, Allowed}
use Rattle.epmd_client_names.specs.Text.{tail_text}
use Rattle.epmd_client_names.specs.Survey.{Lines}
use Rattle.epmd_client_names.proofs.PortLaws.{AllDigits, all_digits, tail_length}

-- ---- the ends of two lines do not overlap

-- there is no space among digits, up to the newline behind them, and they begin with no letter
no_space : (ds : List ℕ) → AllDigits ds → (i : ℕ) → get_or (ds ++ (10 ∷ [])) i 0 ≡ 32 → ⊥
no_space [] a zero e = omega arith
no_space [] a (suc i) e = omega arith
no_space (d ∷ ds) a zero e = omega (arith, a.0)
no_space (d ∷ ds) a (suc i) e = no_space ds a.2 i e

no_letter : (ds r : List ℕ) → AllDigits ds → get_or ((ds ++ (10 ∷ [])) ++ r) 0 0 ≡ 97 → ⊥
no_letter [] r a e = omega arith
no_letter (d ∷ ds) r a e = omega (arith, a.1)

-- a second one would begin with a space and the letter a
inner : (port i : ℕ) (r : List ℕ) → AllDigits (decimal port) → get_or (tail_text port) (suc i) 0 ≡ 32 → get_or (tail_text port ++ r) (suc (suc i)) 0 ≡ 97 → ⊥
unfolding tail_text
inner port zero r a e f = omega arith
inner port (suc zero) r a e f = omega arith
inner port (suc (suc zero)) r a e f = omega arith
inner port (suc (suc (suc zero))) r a e f = omega arith
inner port (suc (suc (suc (suc zero)))) r a e f = omega arith
inner port (suc (suc (suc (suc (suc zero))))) r a e f = omega arith
inner port (suc (suc (suc (suc (suc (suc zero)))))) r a e f = omega arith
inner port (suc (suc (suc (suc (suc (suc (suc zero))))))) r a e f = no_letter (decimal port) r a f
inner port (suc (suc (suc (suc (suc (suc (suc (suc i)))))))) r a e f = no_space (decimal port) a i e

-- the first byte of an end
pub tail_space : (s : List ℕ) (b q : ℕ) (t : List ℕ) → drop b s ≡ tail_text q ++ t → get_or s b 0 ≡ 32
unfolding tail_text
tail_space s b q t h = ap (λ (k : ℕ). get_or s k 0) (omega arith) ∙ sym (get_or-drop b s 0 0) ∙ ap (λ (l : List ℕ). get_or l 0 0) h

module _ (s : List ℕ) (a b p q : ℕ) (r t : List ℕ) (small : p ≤ 65535) (ha : drop a s ≡ tail_text p ++ r) (hb : drop b s ≡ tail_text q ++ t) where
  second_byte : get_or s (b + 1) 0 ≡ 97
  unfolding tail_text
  second_byte = sym (get_or-drop b s 1 0) ∙ ap (λ (l : List ℕ). get_or l 1 0) hb

  at_a : (i : ℕ) → get_or s (a + i) 0 ≡ get_or (tail_text p ++ r) i 0
  at_a i = sym (get_or-drop a s i 0) ∙ ap (λ (l : List ℕ). get_or l i 0) ha

  overlap : (i : ℕ) → b ≡ a + suc i → suc i < length (tail_text p) → ⊥
  overlap i e h =
      inner p i r (all_digits (decimal p) (decimal_text p (omega arith)).digit)
      (sym (get_or-append (tail_text p) r 0 (suc i) h) ∙ sym (at_a (suc i)) ∙ ap (λ (k : ℕ). get_or s k 0) (sym e) ∙ tail_space s b q t hb)
      (sym (at_a (suc (suc i))) ∙ ap (λ (k : ℕ). get_or s k 0) (omega arith) ∙ second_byte)

  apart_by : (d : ℕ) → b ≡ a + suc d → (t : Bool) → ltb (suc d) (length (tail_text p)) ≡ t → a + length (tail_text p) ≤ b
  apart_by d e true f = absurd (overlap d e (ltb-true (suc d) (length (tail_text p)) f))
  apart_by d e false f = omega (arith, ltb-false (suc d) (length (tail_text p)) f)

  tails_apart : a < b → a + length (tail_text p) ≤ b
  tails_apart h = apart_by (b - a - 1) (omega arith) (ltb (suc (b - a - 1)) (length (tail_text p))) refl

-- ---- a line at a place

-- the line x stands from p to q
pub record Stands (s : List ℕ) (p : ℕ) (x : Line) (q : ℕ) : Type 0 where
  pub here : drop p s ≡ line_text x ++ drop q s
  pub next : q ≡ p + length (line_text x)
  pub inside : q ≤ length s
  pub allowed : Allowed x

-- its length by that of its parts
pub line_long : (x : Line) → length (line_text x) ≡ 5 + length x.name + length (tail_text x.port)
line_long x = omega (arith, line_length x.name x.port, tail_length x.port)

pub uncons : (s : List ℕ) (p : ℕ) (x : Line) (xs : List Line) → p ≤ length s → Lines (drop p s) (x ∷ xs)
    → (q : ℕ) × Stands s p x q × Lines (drop q s) xs
unfolding table_bytes Each
uncons s p x xs h r =
    let q : ℕ = p + length (line_text x) in
    let e : drop q s ≡ lines_text xs = sym (drop-drop (length (line_text x)) p s) ∙ ap (drop (length (line_text x))) (sym r.0) ∙ drop-append_seam (line_text x) (lines_text xs) in
    let l : length (line_text x ++ lines_text xs) ≡ length (drop p s) = ap length r.0 in (
      q,
      record {
        here = sym r.0 ∙ ap (λ (t : List ℕ). line_text x ++ t) (sym e);
        next = refl;
        inside = omega (arith, l, length-append (line_text x) (lines_text xs), length-drop p s);
        allowed = r.1.0;
      },
      (sym e, r.1.1),
    )

pub cons : (s : List ℕ) (p : ℕ) (x : Line) (q : ℕ) (xs : List Line) → Stands s p x q → Lines (drop q s) xs → Lines (drop p s) (x ∷ xs)
unfolding table_bytes Each
cons s p x q xs g r = (ap (λ (t : List ℕ). line_text x ++ t) r.0 ∙ sym g.here, (g.allowed, r.1))

module _ (s : List ℕ) (p : ℕ) (x : Line) (q : ℕ) (g : Stands s p x q) where
  pub behind_word : drop (p + 5) s ≡ x.name ++ (tail_text x.port ++ drop q s)
  unfolding line_with tail_text
  behind_word = sym (drop-drop 5 p s) ∙ ap (drop 5) g.here ∙ append_assoc x.name (tail_text x.port) (drop q s)

  pub at_tail : drop (p + 5 + length x.name) s ≡ tail_text x.port ++ drop q s
  at_tail = sym (drop-drop (length x.name) (p + 5) s) ∙ ap (drop (length x.name)) behind_word ∙ drop-append_seam x.name (tail_text x.port ++ drop q s)

  pub word : drop p s ≡ name_word ++ drop (p + 5) s
  unfolding line_with tail_text
  word = g.here ∙ ap (λ (t : List ℕ). name_word ++ t) (append_assoc x.name (tail_text x.port) (drop q s) ∙ sym behind_word)

  pub beyond : p < q
  beyond = omega (arith, g.next, line_long x)

-- ---- of two lines, one inside the other, a third

module _ (s : List ℕ) (a : ℕ) (x : Line) (a2 b : ℕ) (y : Line) (b2 : ℕ) (f : Stands s a x a2) (g : Stands s b y b2) (ab : a < b) (le : b2 ≤ a2) where
  k : ℕ
  k = b - a

  tails_ordered : b + 5 + length y.name ≤ a + 5 + length x.name
  tails_ordered = by (leb (b + 5 + length y.name) (a + 5 + length x.name)) refl where
    by : (t : Bool) → leb (b + 5 + length y.name) (a + 5 + length x.name) ≡ t → b + 5 + length y.name ≤ a + 5 + length x.name
    by true e = leb-true _ _ e
    by false e =
        absurd
        (let h : a + 5 + length x.name < b + 5 + length y.name = leb-false (b + 5 + length y.name) (a + 5 + length x.name) e in
        omega (
          arith,
          tails_apart s (a + 5 + length x.name) (b + 5 + length y.name) x.port y.port (drop a2 s) (drop b2 s) f.allowed.port (at_tail s a x a2 f) (at_tail s b y b2 g) h,
          f.next,
          g.next,
          line_long x,
          line_long y,
          tail_length y.port,
        ))

  merged : Line
  merged = record { name = drop k x.name; port = x.port }

  name_length : length merged.name ≡ length x.name - k
  unfolding merged
  name_length = length-drop k x.name

  behind_inner : drop (b + 5) s ≡ drop k x.name ++ (tail_text x.port ++ drop a2 s)
  unfolding k
  behind_inner =
      let n : a + 5 + (b - a) ≡ b + 5 = omega arith in
      ap (λ (i : ℕ). drop i s) (sym n)
      ∙ sym (drop-drop (b - a) (a + 5) s)
      ∙ ap (drop (b - a)) (behind_word s a x a2 f)
      ∙ drop-append-le (b - a) x.name (tail_text x.port ++ drop a2 s) (omega (arith, tails_ordered))

  -- the space of the inner one's first word stands in the outer one's name
  space_before : get_or x.name (k - 1) 0 ≡ 32
  unfolding k
  space_before =
      let n : a + 5 + (b - a - 1) ≡ b + 4 = omega arith in
      sym (get_or-append x.name (tail_text x.port ++ drop a2 s) 0 (b - a - 1) (omega (arith, tails_ordered, name_some y.name g.allowed.name)))
      ∙ ap (λ (l : List ℕ). get_or l (b - a - 1) 0) (sym (behind_word s a x a2 f))
      ∙ get_or-drop (a + 5) s (b - a - 1) 0
      ∙ ap (λ (i : ℕ). get_or s i 0) n
      ∙ sym (get_or-drop b s 4 0)
      ∙ ap (λ (l : List ℕ). get_or l 4 0) (word s b y b2 g)

  still_named : node_name (drop k x.name) ≡ true
  unfolding k merged
  still_named =
      let j : ℕ = b - a - 1 in
      let n : suc j ≡ b - a = omega arith in
      let sp : x.name ≡ take j x.name ++ (get_or x.name j 0 ∷ drop (suc j) x.name) =
      split_at x.name j 0 (omega (arith, tails_ordered, name_some y.name g.allowed.name))
      in
      let sp2 : x.name ≡ take j x.name ++ (32 ∷ drop (b - a) x.name) =
      sp ∙ ap (λ (v : ℕ). take j x.name ++ (v ∷ drop (suc j) x.name)) space_before ∙ ap (λ (i : ℕ). take j x.name ++ (32 ∷ drop i x.name)) n
      in
      name_behind (take j x.name) (drop (b - a) x.name) 32 (omega arith) (ap node_name (sym sp2) ∙ f.allowed.name)
      (omega (arith, name_length, tails_ordered, name_some y.name g.allowed.name))

  exchange : (z : Line) × Stands s b z a2
  unfolding k merged line_with tail_text
  exchange = (
    merged,
    record {
      here = word s b y b2 g ∙ ap (λ (t : List ℕ). name_word ++ t) (behind_inner ∙ sym (append_assoc (drop k x.name) (tail_text x.port) (drop a2 s)));
      next = omega (arith, line_long merged, name_length, tails_ordered, f.next, line_long x);
      inside = f.inside;
      allowed = record { name = still_named; port = f.allowed.port };
    },
  )

-- ---- no gap

pub ended : (s : List ℕ) (a : ℕ) → Lines (drop a s) [] → length s ≤ a
unfolding table_bytes
ended s a r = omega (arith, ap length r.0, length-drop a s)

fewer : (s : List ℕ) (xs ys : List Line) (a b : ℕ) → a < b → b ≤ length s → Lines (drop a s) xs → Lines (drop b s) ys → length xs < length ys
    → (zs : List Line) × Lines (drop b s) zs × (length zs ≡ length xs)
fewer s [] ys a b h l r t n = absurd (omega (arith, ended s a r))
fewer s (x ∷ xs) [] a b h l r t n = absurd (omega arith)
fewer s (x ∷ xs) (y ∷ ys) a b h l r t n = by (leb b2 a2) refl (λ e. fewer s xs ys a2 b2 (leb-false b2 a2 e) u.1.inside v.2 u.2 (omega arith)) where
  v : (q : ℕ) × Stands s a x q × Lines (drop q s) xs
  v = uncons s a x xs (omega arith) r

  u : (q : ℕ) × Stands s b y q × Lines (drop q s) ys
  u = uncons s b y ys l t

  a2 : ℕ
  a2 = v.0

  b2 : ℕ
  b2 = u.0

  by : (t : Bool) → leb b2 a2 ≡ t → (leb b2 a2 ≡ false → (zs : List Line) × Lines (drop b2 s) zs × (length zs ≡ length xs))
      → (zs : List Line) × Lines (drop b s) zs × (length zs ≡ suc (length xs))
  by true e rec =
      let m : (z : Line) × Stands s b z a2 = exchange s a x a2 b y b2 v.1 u.1 h (leb-true b2 a2 e) in
      (m.0 ∷ xs, cons s b m.0 a2 xs m.1 v.2, refl)
  by false e rec =
      let w : (zs : List Line) × Lines (drop b2 s) zs × (length zs ≡ length xs) = rec e in
      (y ∷ w.0, cons s b y b2 w.0 u.1 w.1, ap suc w.2)

-- where a reading has k lines and another at least k + 2, a third has k + 1
pub no_gap : (s : List ℕ) (xs ys : List Line) → Lines s xs → Lines s ys → suc (length xs) < length ys
    → (zs : List Line) × Lines s zs × (length zs ≡ suc (length xs))
no_gap s xs [] r t n = absurd (omega arith)
no_gap s xs (y ∷ ys) r t n =
    let u : (q : ℕ) × Stands s 0 y q × Lines (drop q s) ys = uncons s 0 y ys (omega arith) t in
    let w : (zs : List Line) × Lines (drop u.0 s) zs × (length zs ≡ length xs) =
    fewer s xs ys 0 u.0 (beyond s 0 y u.0 u.1) u.1.inside r u.2 (omega arith)
    in
    (y ∷ w.0, cons s 0 y u.0 w.0 u.1 w.1, ap suc w.2)
