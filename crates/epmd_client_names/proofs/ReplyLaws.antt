-- What a tally of all readings of a text says of those with at most 64 lines; and a reply's readings are those of its text, with the own port.
-- Assumes nothing.
use Prim.Native.Nat.{ℕ, suc, ◌≤◌, ◌<◌}
use mathlib.Core.Path.{◌≡◌, refl, sym, ap, ◌∙◌, subst}
use mathlib.Core.Bool.{Bool, true, false, cond}
use mathlib.Core.List.{List, ◌++◌}
use native.Mathlib.Omega.{arith}
use lib.ListN.{length, take, drop, take-append-drop}
use lib.Seq.{length-take-le}
use lib.Dec.{ltb, leb}
use Rattle.std.specs.Prelude.{Result, Ok, Err}
use borrow.Author.Tests.{ltb-true, ltb-false, leb-true, leb-false}
use Rattle.wire.specs.Run.{part}
use Rattle.wire.specs.Number.{be, num, be_at}
use Rattle.wire.specs.Claims.{Octets}
use Rattle.wire.proofs.NumberLaws.{number_back, octets_back, octets_part}
use Rattle.epmd_client_rules.specs.declared.unreadable.Unreadable.{Unreadable}
use Rattle.epmd_client_rules.specs.declared.unreadable.Unreadable.TheVariants.{WrongLength, Ambiguous}
use Rattle.epmd_client_rules.specs.declared.reply.LineAt.{LineAt}
use Rattle.epmd_client_rules.specs.declared.reply.NamesReply.{NamesReply}
use Rattle.epmd_client_rules.specs.Readings.{Line, Reading, Reads, Tells, listed, most, lines_told}
use Rattle.epmd_client_rules.specs.Readings as readings
use Rattle.epmd_client_names.specs.Text.{longest}
use Rattle.epmd_client_names.specs.declared.tally.Tally.{Tally}
use Rattle.epmd_client_names.specs.declared.tally.Tally.TheVariants as tally
use Rattle.epmd_client_names.specs.Tallies.{Least, Means, verdict_of}
use Rattle.epmd_client_names.specs.Survey.{Lines}
use Rattle.epmd_client_names.specs.Walk.{Lead, Walked}
use Rattle.epmd_client_names.proofs.LineLaws.{no_gap}
use Rattle.epmd_client_names.proofs.SurveyLaws.{lines_short}

-- ---- the verdict

pub data Decided (s : List ℕ) : Result ℕ Unreadable → Type 0 where
  none : ((x : List Line) → Lines s x → length x ≤ most → ⊥) → Decided s (Err WrongLength)
  several : (x y : List Line) → Lines s x → Lines s y → length x ≤ most → length y ≤ most → (x ≡ y → ⊥) → Decided s (Err Ambiguous)
  only : (k : ℕ) (x : List Line) → Lead s 0 k x → k ≤ most → ((y : List Line) → Lines s y → length y ≤ most → y ≡ x) → Decided s (Ok k)

module _ (s : List ℕ) where
  -- where one reading has the fewest lines, fewer than 64, and another has more, two have at most 64
  second : (k : ℕ) → Least (Lines s) k → k < most → Decided s (Err Ambiguous)
  second k m h = by (leb (length m.4) most) refl where
    by : (t : Bool) → leb (length m.4) most ≡ t → Decided s (Err Ambiguous)
    by true e = several m.0 m.4 m.1 m.5 (omega (arith, m.2)) (leb-true (length m.4) most e) (λ q. omega (arith, ap length q, m.2, m.6))
    by false e =
        let z : (zs : List Line) × Lines s zs × (length zs ≡ suc (length m.0)) =
        no_gap s m.0 m.4 m.1 m.5 (omega (arith, m.2, leb-false (length m.4) most e))
        in
        several m.0 z.0 m.1 z.1 (omega (arith, m.2)) (omega (arith, z.2, m.2)) (λ q. omega (arith, ap length q, z.2))

  pub decided : (t : Tally) → Means (Lines s) t → Decided s (verdict_of t)
  decided tally.Nothing m = none (λ x r f. m x r)
  decided tally.Over m = none (λ x r f. omega (arith, m.2 x r))
  decided (tally.One k) m = only k m.0.0 (record { reads = m.0.1; lines = m.0.2; only = λ y r g. m.0.3 y r }) m.1 (λ y r f. m.0.3 y r)
  decided (tally.Least k) m = by (ltb k most) refl where
    by : (u : Bool) → ltb k most ≡ u → Decided s (cond u (Err Ambiguous) (Ok k))
    by true f = second k m.0 (ltb-true k most f)
    by false f =
        only k m.0.0 (record { reads = m.0.1; lines = m.0.2; only = λ y r g. m.0.3 y r g }) m.1
        (λ y r g. m.0.3 y r (omega (arith, ltb-false k most f)))
  decided (tally.Several k) m = several m.0.0 m.0.1 m.0.2 m.0.3 (omega (arith, m.0.4, m.1)) (omega (arith, m.0.5, m.1)) m.0.6

-- ---- a reply with an own port and a text

module _ (own : ℕ) (small : own ≤ 65535) (s : List ℕ) where
  abbrev with : List Line → Reading
  with xs = record { own = own; lines = xs }

  lift : (xs : List Line) → Lines s xs → length xs ≤ most → Reads (be 4 own ++ s) (with xs)
  lift xs r f = record { text = ap (λ (l : List ℕ). be 4 own ++ l) r.0; own = small; lines = r.1; few = f }

  lower : (m : Reading) → Reads (be 4 own ++ s) m → Lines s m.lines
  lower m r = (ap (drop 4) r.text, r.lines)

  own_is : (m : Reading) → Reads (be 4 own ++ s) m → m.own ≡ own
  own_is m r = sym (number_back 4 m.own (omega (arith, r.own))) ∙ ap (λ (l : List ℕ). num (take 4 l)) r.text ∙ number_back 4 own (omega arith)

  is_with : (m : Reading) (xs : List Line) → Reads (be 4 own ++ s) m → m.lines ≡ xs → m ≡ with xs
  is_with m xs r e = let o = own_is m r in λ i. record { own = o i; lines = e i }

  pub told_none : ((x : List Line) → Lines s x → length x ≤ most → ⊥) → Tells (be 4 own ++ s) (Err WrongLength)
  told_none u = readings.none (λ m r. u m.lines (lower m r) r.few)

  refused : {v : Result ℕ Unreadable} (why : Unreadable) → Decided s v → v ≡ Err why → Tells (be 4 own ++ s) (Err why)
  refused why (none u) e = let q : WrongLength ≡ why = cc in subst (λ (w : Unreadable). Tells (be 4 own ++ s) (Err w)) q (told_none u)
  refused why (several x y rx ry fx fy d) e =
      let q : Ambiguous ≡ why = cc in
      subst (λ (w : Unreadable). Tells (be 4 own ++ s) (Err w)) q
      (readings.several (with x) (with y) (lift x rx fx) (lift y ry fy) (λ z. d (ap (λ (m : Reading). m.lines) z)))
  refused why (only k x l h u) e = let z : ◌≡◌ {A = ℕ} 0 1 = cc in absurd (omega arith)

  -- the lines that are walked, and that they are the answer
  pub record Sole (k : ℕ) : Type 0 where
    pub lines : List Line
    pub lead : Lead s 0 k lines
    pub few : k ≤ most
    pub tells : Tells (be 4 own ++ s) (listed (with lines))

  sole : {v : Result ℕ Unreadable} (k : ℕ) → Decided s v → v ≡ Ok k → Sole k
  sole k (none u) e = let z : ◌≡◌ {A = ℕ} 0 1 = cc in absurd (omega arith)
  sole k (several x y rx ry fx fy d) e = let z : ◌≡◌ {A = ℕ} 0 1 = cc in absurd (omega arith)
  sole k (only n x l h u) e =
      let q : n ≡ k = cc in
      subst Sole q
      (record {
        lines = x;
        lead = l;
        few = h;
        tells = readings.only (with x) (lift x l.reads (omega (arith, l.lines))) (λ m r. is_with m x r (u m.lines (lower m r) r.few));
      })

  -- by the tally of all readings
  module _ (t : Tally) (m : Means (Lines s) t) where
    pub told_refused : (why : Unreadable) → verdict_of t ≡ Err why → Tells (be 4 own ++ s) (Err why)
    told_refused why e = refused why (decided s t m) e

    pub told_listed : (k : ℕ) → verdict_of t ≡ Ok k → Sole k
    told_listed k e = sole k (decided s t m) e

  -- and what is told of them
  pub told_walked : (k : ℕ) → Sole k → (es : List LineAt) → Walked s k es → Tells (be 4 own ++ s) (Ok (record { port = own; count = k; lines = es }))
  told_walked k z es w =
      let c : length z.lines ≡ k = z.lead.lines in
      let l : lines_told z.lines ≡ es = sym (w z.lines z.lead) in
      let e : ◌≡◌ {A = NamesReply} (record { port = own; count = length z.lines; lines = lines_told z.lines }) (record { port = own; count = k; lines = es }) =
      λ i. record { port = own; count = c i; lines = l i }
      in
      subst (λ (r : NamesReply). Tells (be 4 own ++ s) (Ok r)) e z.tells

-- 64 lines have no more bytes
pub too_long : (s : List ℕ) → longest < length s → (x : List Line) → Lines s x → length x ≤ most → ⊥
too_long s h x r f = omega (arith, lines_short x r.1, ap length r.0)

-- ---- the own port in the first four bytes

read_long : (b : List ℕ) (m : Reading) → Reads b m → 4 ≤ length b
read_long b m r = omega (arith, ap length r.text)

pub told_short : (b : List ℕ) → length b < 4 → Tells b (Err WrongLength)
told_short b h = readings.none (λ m r. omega (arith, read_long b m r))

pub told_big : (b : List ℕ) → (be_at 4 0 b < 65536 → ⊥) → Tells b (Err WrongLength)
unfolding be_at part
told_big b h =
    readings.none (λ m r. h (omega (arith, r.own, sym (number_back 4 m.own (omega (arith, r.own))) ∙ ap (λ (l : List ℕ). num (take 4 l)) r.text)))

pub whole : (b : List ℕ) → 4 ≤ length b → Octets b → be 4 (be_at 4 0 b) ++ drop 4 b ≡ b
unfolding be_at part
whole b h o =
    let l : length (take 4 b) ≡ 4 = length-take-le 4 b h in
    let e : be 4 (num (take 4 b)) ≡ take 4 b = ap (λ (w : ℕ). be w (num (take 4 b))) (sym l) ∙ (octets_back (take 4 b) (octets_part b o 0 4)).0 in
    ap (λ (p : List ℕ). p ++ drop 4 b) e ∙ take-append-drop 4 b

pub ruleset own_laws = (told_short, told_big)
