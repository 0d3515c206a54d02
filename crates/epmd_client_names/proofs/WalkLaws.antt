-- The one reading with the fewest lines, line by line. Assumes nothing.
use Prim.Native.Nat.{ℕ, suc, ◌+◌, ◌-◌, ◌≤◌, ◌<◌}
use mathlib.Core.Path.{◌≡◌, refl, sym, ap, ◌∙◌, subst}
use mathlib.Core.Logic.{⊎_elim}
use mathlib.Core.Bool.{true, false}
use mathlib.Core.List.{List, [], ◌∷◌, ◌++◌, append_assoc, append-nil}
use native.Mathlib.Omega.{arith}
use lib.ListN.{length, get_or, drop, set, replicate, length-append}
use lib.Seq.{set_at}
use Rattle.std.specs.Prelude.{Option, Some, None, IsSome}
use Rattle.std.specs.Option.{option_eq}
use lib.Dec.{eqb}
use borrow.Author.Tests.{eqb-false}
use Rattle.wire.specs.Table.{table_bytes}
use Rattle.wire.proofs.TableLaws.{bytes_append}
use Rattle.epmd_rules.specs.Replies.{name_word}
use Rattle.epmd_client_rules.specs.declared.reply.LineAt.{LineAt}
use Rattle.epmd_client_rules.specs.Readings.{Line, line_text, lines_text, lines_at, no_line, most, lines_told}
use Rattle.epmd_client_names.specs.declared.tally.Tally.{Tally}
use Rattle.epmd_client_names.specs.Text.{has_at, space_at, found, tail_at}
use Rattle.epmd_client_names.specs.Tallies.{Means, fewest_of}
use Rattle.epmd_client_names.specs.Survey.{Lines, FirstIs, FirstBelow, Exact}
use Rattle.epmd_client_names.specs.Walk.{Lead, FirstLen}
use Rattle.epmd_client_names.proofs.TextLaws.{has_of, port_of, next_of}
use Rattle.epmd_client_names.proofs.PortLaws.{tail_length}
use Rattle.epmd_client_names.proofs.TallyLaws.{same_number, no_number, Fewest, fewest, at_least, nothing}
use Rattle.epmd_client_names.proofs.LineLaws.{Stands, uncons, cons, line_long, word, beyond}
use Rattle.epmd_client_names.proofs.SurveyLaws.{First, first, below_one, below_split, skip, skip_tail, all_within}

-- ---- the length of its first name: the one whose tally has as few lines

-- what the test tells
not_same : (o : Option ℕ) (k : ℕ) → option_eq eqb o (Some k) ≡ false → o ≡ Some k → ⊥
not_same None k h e = no_number k e
not_same (Some j) k h e = eqb-false j k h (same_number j k e)

module _ (s : List ℕ) (p k n : ℕ) (small : k ≤ most) (t : Tally) (m : Means (Exact s p n) t) (x : List Line) (l : Lead s p k x) where
  lead_not : (fewest_of t ≡ Some k → ⊥) → FirstIs n x → ⊥
  lead_not h f = by (fewest_of t) refl where
    by : (o : Option ℕ) → fewest_of t ≡ o → ⊥
    by None e = nothing (Exact s p n) t m e x (l.reads, f)
    by (Some j) e =
        let le : j ≤ length x = (at_least (Exact s p n) t j m e).2 x (l.reads, f) in
        let y : Fewest (Exact s p n) j = fewest (Exact s p n) t j m e (omega (arith, l.lines)) in
        let q : y.0 ≡ x = l.only y.0 y.1.0 (omega (arith, y.2, l.lines)) in
        let same : j ≡ k = omega (arith, y.2, ap length q, l.lines) in
        h (e ∙ ap (λ (i : ℕ). Some i) same)

  pub lead_turn : option_eq eqb (fewest_of t) (Some k) ≡ false → (FirstBelow n x → ⊥) → FirstBelow (n + 1) x → ⊥
  lead_turn h f b = ⊎_elim (λ e. f e.1) (λ e. lead_not (not_same (fewest_of t) k h) e.1) (below_split s p n x (l.reads, b))

  -- where the fewest are k, it is the one
  pub lead_first : fewest_of t ≡ Some k → FirstIs n x
  lead_first e =
      let y : Fewest (Exact s p n) k = fewest (Exact s p n) t k m e small in
      subst (FirstIs n) (l.only y.0 y.1.0 (omega (arith, y.2))) y.1.1

pub lead_skip : (s : List ℕ) (p k n : ℕ) → p ≤ length s → space_at s (p + 5 + n) ≡ false → (x : List Line) → Lead s p k x → (FirstBelow n x → ⊥) → FirstBelow (n + 1) x → ⊥
lead_skip s p k n h e x l f b = f (skip s p n h e x (l.reads, b)).1

pub lead_skip_tail : (s : List ℕ) (p k n : ℕ) → p ≤ length s → eqb (get_or s (p + 5 + n + 1) 0) 97 ≡ false → (x : List Line) → Lead s p k x → (FirstBelow n x → ⊥) → FirstBelow (n + 1) x → ⊥
lead_skip_tail s p k n h e x l f b = f (skip_tail s p n h e x (l.reads, b)).1

pub lead_start : (s : List ℕ) (p k : ℕ) (x : List Line) → Lead s p k x → FirstBelow 1 x → ⊥
lead_start s p k x l b = below_one s p x (l.reads, b)

pub lead_within : (s : List ℕ) (p k n : ℕ) (x : List Line) → p < length s → (n < 256 → length s ≤ p + 5 + n) → Lead s p k x → (FirstBelow n x → ⊥) → ⊥
lead_within s p k n x h g l f = f (all_within s p n h g x l.reads).1

pub lead_end : (s : List ℕ) (p k : ℕ) (x : List Line) → p < length s → Lead s p k x → (FirstBelow 256 x → ⊥) → ⊥
lead_end s p k x h l f = lead_within s p k 256 x h (λ g. absurd (omega arith)) l f

-- some name is found
len_some : (s : List ℕ) (p k : ℕ) (o : Option ℕ) → FirstLen s p k o → (x : List Line) → Lead s p k x → IsSome o
len_some s p k None f x l = absurd (f x l)
len_some s p k (Some n) f x l = refl

-- ---- one line of the walk

pub record Next (s : List ℕ) (p k n : ℕ) (x : List Line) : Type 0 where
  pub line : Line
  pub rest : List Line
  pub next : ℕ
  pub are : x ≡ line ∷ rest
  pub stands : Stands s p line next
  pub tail : tail_at s (p + 5 + n) ≡ found line.port next
  pub long : length line.name ≡ n
  pub lead : Lead s next k rest
  pub inside : p + 5 + n < length s

cons_same : (a : Line) (x y : List Line) → a ∷ x ≡ a ∷ y → x ≡ y
cons_same a x y e = cc

walk_next : (s : List ℕ) (p k n : ℕ) (x : List Line) → p ≤ length s → Lead s p (suc k) x → FirstIs n x → Next s p k n x
walk_next s p k n [] h l f = absurd f
walk_next s p k n (y ∷ ys) h l f =
    let q : First s p n h y ys = first s p n h y ys (l.reads, f) in
    record {
      line = y;
      rest = ys;
      next = q.next;
      are = refl;
      stands = q.stands;
      tail = q.tail;
      long = f;
      lead = record {
        reads = q.rest;
        lines = omega (arith, l.lines);
        only = λ z r g. cons_same y z ys (l.only (y ∷ z) (cons s p y q.next z q.stands r) (omega arith));
      };
      inside = omega (arith, q.stands.next, q.stands.inside, line_long y, tail_length y.port, f);
    }

-- a reading with a line begins with the word
walk_word : (s : List ℕ) (p k : ℕ) (x : List Line) → p ≤ length s → Lead s p (suc k) x → (has_at s p name_word ≡ true) × (p < length s)
walk_word s p k [] h l = absurd (omega (arith, l.lines))
walk_word s p k (y ∷ ys) h l =
    let u : (q : ℕ) × Stands s p y q × Lines (drop q s) ys = uncons s p y ys h l.reads in
    (has_of s p name_word (drop (p + 5) s) (word s p y u.0 u.1), omega (arith, beyond s p y u.0 u.1, u.1.inside))

-- ---- where lines lie, with one more at the end

entry : ℕ → Line → LineAt
entry at x = record { at = at + length name_word; len = length x.name; port = x.port }

places_length : (at : ℕ) (xs : List Line) → length (lines_at at xs) ≡ length xs
places_length at [] = refl
places_length at (x ∷ xs) = ap suc (places_length (at + length (line_text x)) xs)

places_more : (at : ℕ) (xs : List Line) (z : Line) → lines_at at (xs ++ (z ∷ [])) ≡ lines_at at xs ++ (entry (at + length (lines_text xs)) z ∷ [])
unfolding table_bytes entry
places_more at [] z =
    let e : at ≡ at + 0 = omega arith in
    ap (λ (k : ℕ). entry k z ∷ []) e
places_more at (x ∷ xs) z =
    let e : at + length (line_text x) + length (lines_text xs) ≡ at + length (line_text x ++ lines_text xs) = omega (arith, length-append (line_text x) (lines_text xs)) in
    ap (λ (l : List LineAt). entry at x ∷ l)
    (places_more (at + length (line_text x)) xs z ∙ ap (λ (k : ℕ). lines_at (at + length (line_text x)) xs ++ (entry k z ∷ [])) e)

text_more : (xs : List Line) (z : Line) → length (lines_text (xs ++ (z ∷ []))) ≡ length (lines_text xs) + length (line_text z)
unfolding table_bytes
text_more xs z =
    ap length (bytes_append line_text xs (z ∷ [])) ∙ omega (arith, length-append (lines_text xs) (line_text z ++ []), length-append (line_text z) [])

-- ---- the walk so far: i lines are told, and those from p on are left

pub record Sofar (s : List ℕ) (count : ℕ) (es : List LineAt) (p i : ℕ) : Type 0 where
  pub done : List Line
  pub left : List Line
  pub whole : Lead s 0 count (done ++ left)
  pub rest : Lead s p (count - i) left
  pub many : length done ≡ i
  pub upto : length (lines_text done) ≡ p
  pub inside : p ≤ length s
  pub are : es ≡ lines_at 4 done ++ replicate (most - i) no_line

pub sofar_start : (s : List ℕ) (count : ℕ) (x : List Line) → Lead s 0 count x → Sofar s count (replicate most no_line) 0 0
unfolding table_bytes
sofar_start s count x l =
    let e : count ≡ count - 0 = omega arith in
    record {
      done = [];
      left = x;
      whole = l;
      rest = subst (λ (k : ℕ). Lead s 0 k x) e l;
      many = refl;
      upto = refl;
      inside = omega arith;
      are = refl;
    }

module _ (s : List ℕ) (count : ℕ) (es : List LineAt) (p i : ℕ) (f : Sofar s count es p i) (more : i < count) where
  some_left : Lead s p (suc (count - i - 1)) f.left
  some_left = let e : count - i ≡ suc (count - i - 1) = omega arith in subst (λ (j : ℕ). Lead s p j f.left) e f.rest

  pub sofar_word : (has_at s p name_word ≡ true) × (p < length s)
  sofar_word = walk_word s p (count - i - 1) f.left f.inside some_left

  pub sofar_line : (n : ℕ) → FirstIs n f.left → Next s p (count - i - 1) n f.left
  sofar_line n h = walk_next s p (count - i - 1) n f.left f.inside some_left h

  pub sofar_some : (o : Option ℕ) → FirstLen s p (count - i) o → IsSome o
  sofar_some o h = len_some s p (count - i) o h f.left f.rest

  pub sofar_first : (o : Option ℕ) (n : ℕ) → o ≡ Some n → FirstLen s p (count - i) o → FirstIs n f.left
  sofar_first o n e h = (subst (FirstLen s p (count - i)) e h).0 f.left f.rest

  -- the next of the lines that are not told yet
  room : i < most → es ≡ lines_at 4 f.done ++ (no_line ∷ replicate (most - (i + 1)) no_line)
  room h =
      let e : most - i ≡ suc (most - (i + 1)) = omega arith in
      f.are ∙ ap (λ (k : ℕ). lines_at 4 f.done ++ replicate k no_line) e

  pub sofar_next : (n port next : ℕ) → i < most → FirstIs n f.left → tail_at s (p + 5 + n) ≡ found port next
      → Sofar s count (set es i (record { at = 4 + (p + 5); len = n; port = port })) next (i + 1)
  unfolding entry
  sofar_next n port next h first t =
      let w : Next s p (count - i - 1) n f.left = sofar_line n first in
      let z : Line = w.line in
      let done : List Line = f.done ++ (z ∷ []) in
      let g : found port next ≡ found z.port w.next = sym t ∙ w.tail in
      let pe : port ≡ z.port = ap port_of g in
      let ne : w.next ≡ next = sym (ap next_of g) in
      let at : 4 + (p + 5) ≡ 4 + length (lines_text f.done) + length name_word = omega (arith, f.upto) in
      let len : n ≡ length z.name = sym w.long in
      let new : LineAt = record { at = 4 + (p + 5); len = n; port = port } in
      let same : new ≡ entry (4 + length (lines_text f.done)) z = λ j. record { at = at j; len = len j; port = pe j } in
      let all : f.done ++ f.left ≡ done ++ w.rest = ap (λ (l : List Line). f.done ++ l) w.are ∙ sym (append_assoc f.done (z ∷ []) w.rest) in
      let k : count - i - 1 ≡ count - (i + 1) = omega arith in
      let left : List LineAt = replicate (most - (i + 1)) no_line in
      record {
        done = done;
        left = w.rest;
        whole = subst (λ (l : List Line). Lead s 0 count l) all f.whole;
        rest = subst (λ (j : ℕ). Lead s next j w.rest) k (subst (λ (q : ℕ). Lead s q (count - i - 1) w.rest) ne w.lead);
        many = omega (arith, length-append f.done (z ∷ []), f.many);
        upto = omega (arith, text_more f.done z, f.upto, w.stands.next, ne);
        inside = omega (arith, w.stands.inside, ne);
        are =
            ap (λ (l : List LineAt). set l i new) (room h)
            ∙ set_at (lines_at 4 f.done) no_line left new i (places_length 4 f.done ∙ f.many)
            ∙ ap (λ (e : LineAt). lines_at 4 f.done ++ (e ∷ left)) same
            ∙ sym (append_assoc (lines_at 4 f.done) (entry (4 + length (lines_text f.done)) z ∷ []) left)
            ∙ ap (λ (l : List LineAt). l ++ left) (sym (places_more 4 f.done z));
      }

no_lines : (x : List Line) → length x ≡ 0 → x ≡ []
no_lines [] e = refl
no_lines (x ∷ xs) e = absurd (omega arith)

-- none is left
pub sofar_end : (s : List ℕ) (count : ℕ) (es : List LineAt) (p i : ℕ) → Sofar s count es p i → i ≡ count → (x : List Line) → Lead s 0 count x → es ≡ lines_told x
sofar_end s count es p i f e x l =
    let z : f.left ≡ [] = no_lines f.left (omega (arith, f.rest.lines)) in
    let d : f.done ≡ x =
    sym (append-nil f.done) ∙ ap (λ (y : List Line). f.done ++ y) (sym z) ∙ l.only (f.done ++ f.left) f.whole.reads (omega (arith, f.whole.lines))
    in
    f.are ∙ ap (λ (k : ℕ). lines_at 4 f.done ++ replicate (most - k) no_line) (sym f.many) ∙ ap lines_told d
