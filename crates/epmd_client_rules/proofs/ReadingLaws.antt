-- The answer to a NAMES reply is fixed by the reply: 5 exactly if there is no reading, 20 exactly if there are two. The names lie where they are told to
-- lie. Assumes nothing.
use Prim.Native.Nat.{ℕ, ◌+◌}
use mathlib.Core.Path.{◌≡◌, refl, sym, ap, ap₂, ◌∙◌}
use mathlib.Core.List.{List, [], ◌∷◌, ◌++◌, map, append_assoc}
use native.Mathlib.Omega.{arith}
use lib.ListN.{length, length-append}
use Rattle.std.specs.Prelude.{Result, Ok, Err}
use Rattle.wire.specs.Run.{part}
use Rattle.wire.specs.Number.{be}
use Rattle.wire.specs.Decimal.{decimal}
use Rattle.wire.specs.Table.{table_bytes}
use Rattle.wire.proofs.RunLaws.{part_behind}
use Rattle.epmd_rules.specs.Replies.{name_word, port_word, line_with}
use Rattle.epmd_client_rules.specs.declared.unreadable.Unreadable.{Unreadable}
use Rattle.epmd_client_rules.specs.declared.reply.NamesReply.{NamesReply}
use Rattle.epmd_client_rules.specs.Readings.{Line, line_text, lines_text, lines_at, listed, Tells, none, several, only}
use Rattle.epmd_client_rules.specs.Answers.{listing_number}
use Rattle.epmd_client_rules.specs.ReadingClaims.{ToldOnce, NoReading, TwoReadings, OneReading, ReadAs, ReadExactly, ListingTold, line_in, LinesLie}

module _ (b : List ℕ) where
  -- no two of the three
  none_one : NoReading b → OneReading b → ⊥
  none_one u o = u o.0 o.1

  none_two : NoReading b → TwoReadings b → ⊥
  none_two u t = u t.0 t.2

  one_two : OneReading b → TwoReadings b → ⊥
  one_two o t = t.4 (o.2 t.0 t.2 ∙ sym (o.2 t.1 t.3))

  once : {r s : Result NamesReply Unreadable} → Tells b r → Tells b s → r ≡ s
  once (none u) (none v) = refl
  once (none u) (several m n rm rn d) = absurd (none_two u (m, n, rm, rn, d))
  once (none u) (only m rm v) = absurd (none_one u (m, rm, v))
  once (several m n rm rn d) (none v) = absurd (none_two v (m, n, rm, rn, d))
  once (several m n rm rn d) (several m2 n2 rm2 rn2 d2) = refl
  once (several m n rm rn d) (only k rk v) = absurd (one_two (k, rk, v) (m, n, rm, rn, d))
  once (only m rm u) (none v) = absurd (none_one v (m, rm, u))
  once (only m rm u) (several k n rk rn d) = absurd (one_two (m, rm, u) (k, n, rk, rn, d))
  once (only m rm u) (only n rn v) = ap listed (v m rm)

  read_as : {r : Result NamesReply Unreadable} → Tells b r → ReadAs b (listing_number r)
  read_as (none u) =
      record {
        none = ((λ e. u), λ v. refl);
        several = ((λ e. absurd (omega arith)), λ t. absurd (none_two u t));
        only = ((λ e. absurd (omega arith)), λ o. absurd (none_one u o));
      }
  read_as (several m n rm rn d) =
      let t : TwoReadings b = (m, n, rm, rn, d) in
      record {
        none = ((λ e. absurd (omega arith)), λ u. absurd (none_two u t));
        several = ((λ e. t), λ v. refl);
        only = ((λ e. absurd (omega arith)), λ o. absurd (one_two o t));
      }
  read_as (only m rm u) =
      let o : OneReading b = (m, rm, u) in
      record {
        none = ((λ e. absurd (omega arith)), λ v. absurd (none_one v o));
        several = ((λ e. absurd (omega arith)), λ t. absurd (one_two o t));
        only = ((λ e. o), λ v. refl);
      }

pub told_once : ToldOnce
told_once b r s t u = once b t u

pub read_exactly : ReadExactly
read_exactly b r t = read_as b t

pub listing_told : ListingTold
listing_told (Ok r) = refl
listing_told (Err why) = refl

-- ---- where the names lie

regroup : (pre n t r : List ℕ) → pre ++ ((name_word ++ (n ++ t)) ++ r) ≡ (pre ++ name_word) ++ (n ++ (t ++ r))
regroup pre n t r = simp append_assoc

module _ (b : List ℕ) where
  named : (pre : List ℕ) (at : ℕ) (x : Line) (r : List ℕ) → length pre ≡ at → pre ++ (line_text x ++ r) ≡ b → part (at + length name_word) (length x.name) b ≡ x.name
  unfolding line_with
  named pre at x r l e =
      let tail : List ℕ = port_word ++ (decimal x.port ++ (10 ∷ [])) in
      ap (part (at + 5) (length x.name)) (sym e ∙ regroup pre x.name tail r)
      ∙ part_behind (pre ++ name_word) x.name (tail ++ r) (at + 5) (length x.name) (omega (arith, length-append pre name_word)) refl

  lie : (xs : List Line) (pre : List ℕ) (at : ℕ) → length pre ≡ at → pre ++ lines_text xs ≡ b → map (line_in b) (lines_at at xs) ≡ xs
  unfolding table_bytes
  lie [] pre at l e = refl
  lie (x ∷ xs) pre at l e =
      let n : part (at + 5) (length x.name) b ≡ x.name = named pre at x (lines_text xs) l e in
      let line : record { name = part (at + 5) (length x.name) b; port = x.port } ≡ x = λ i. record { name = n i; port = x.port } in
      ap₂ (λ (y : Line) (ys : List Line). y ∷ ys) line
      (lie xs (pre ++ line_text x) (at + length (line_text x)) (omega (arith, length-append pre (line_text x), l)) (append_assoc pre (line_text x) (lines_text xs) ∙ e))

pub lines_lie : LinesLie
lines_lie b m r = lie b m.lines (be 4 m.own) 4 refl r.text
