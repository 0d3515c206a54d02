-- Laws of a run's steps. Assumes nothing.
use Prim.Native.Nat.{ℕ, ◌≤◌}
use mathlib.Core.Path.{◌≡◌, refl, sym, ap, ap₂, ◌∙◌}
use mathlib.Core.Bool.{Bool, true, false, cond}
use mathlib.Core.List.{List, [], ◌∷◌, ◌++◌}
use native.Mathlib.Omega.{arith}
use lib.ListN.{length, take, drop}
use lib.Dec.{ltb}
use borrow.Author.Tests.{ltb-false, eq-eqb, ne_eqb}
use Rattle.wire.specs.Decimal.{value}
use Rattle.wire.specs.Run.{same_bytes}
use Rattle.wire.specs.Output.{written}
use Rattle.epmd_rules.specs.declared.refusal.Refusal.{Refusal}
use Rattle.epmd_rules.specs.State.{Registry}
use Rattle.epmd_rules.specs.Registry.{new_of}
use Rattle.epmd_rules.specs.Answers.{numbers_of}
use Rattle.epmd_state.specs.Bytes.{if_made}
use Rattle.epmd_rules.specs.Serve as mapper
use Rattle.script_lines.specs.declared.line.Item.{Item}
use Rattle.script_lines.specs.declared.line.Item.TheVariants.{Op, Conn, Hex}
use Rattle.std.proofs.Common.{Option, Some, None, Result}
use Rattle.script_lines.specs.declared.script.Awaits.{Awaits}
use Rattle.script_lines.specs.declared.script.Awaits.TheVariants.{Operation, Connection, Frame, Nothing}
use Rattle.script_lines.specs.declared.script.Plan.{Plan}
use Rattle.script_lines.specs.declared.script.Plan.TheVariants.{Await, Serve, Fail, Rest}
use Rattle.script_lines.specs.State.{Script}
use Rattle.script_lines.specs.Text.{is_hex, is_decimal}
use Rattle.script_lines.specs.Line.{op_req, conn_key, hex_key, starts_with, conn_item, hex_item, item_of}
use Rattle.script_lines.specs.Answer.{answer_text, result_number}
use Rattle.script_lines.specs.Script.{plan_of, inside_group, answered, failure, failed, quiet, outcome_of, line_of, ending, end_of}
use Rattle.script_lines.specs.Lines.{lines_from, printed_from, to_print}
use Rattle.script_lines.proofs.LineLaws.{starts_fits}
use Rattle.script_lines.proofs.AnswerLaws.{written_front, written_holds}

-- a line is what is planned for it
pub line_planned : (s : Script) (l : List ℕ) (p : Plan) → plan_of s.awaits (item_of l) ≡ p → line_of s l ≡ outcome_of s l p
unfolding line_of
line_planned s l p e = ap (outcome_of s l) e

-- a frame is served only for a line that is Hex
pub serve_hex : (a : Awaits) (i : Option Item) (c : ℕ) → plan_of a i ≡ Serve c → i ≡ Some Hex
serve_hex Operation (Some Op) c e = let z : ◌≡◌ {A = ℕ} 0 1 = cc in absurd (omega arith)
serve_hex Operation (Some (Conn n)) c e = let z : ◌≡◌ {A = ℕ} 0 1 = cc in absurd (omega arith)
serve_hex Operation (Some Hex) c e = refl
serve_hex Operation None c e = let z : ◌≡◌ {A = ℕ} 0 1 = cc in absurd (omega arith)
serve_hex Connection (Some Op) c e = let z : ◌≡◌ {A = ℕ} 0 1 = cc in absurd (omega arith)
serve_hex Connection (Some (Conn n)) c e = let z : ◌≡◌ {A = ℕ} 0 1 = cc in absurd (omega arith)
serve_hex Connection (Some Hex) c e = refl
serve_hex Connection None c e = let z : ◌≡◌ {A = ℕ} 0 1 = cc in absurd (omega arith)
serve_hex (Frame d) (Some Op) c e = let z : ◌≡◌ {A = ℕ} 0 1 = cc in absurd (omega arith)
serve_hex (Frame d) (Some (Conn n)) c e = let z : ◌≡◌ {A = ℕ} 0 1 = cc in absurd (omega arith)
serve_hex (Frame d) (Some Hex) c e = refl
serve_hex (Frame d) None c e = let z : ◌≡◌ {A = ℕ} 0 1 = cc in absurd (omega arith)
serve_hex Nothing i c e = let z : ◌≡◌ {A = ℕ} 0 1 = cc in absurd (omega arith)

-- what a line that is Hex holds
pub record HexLine (l : List ℕ) : Type 0 where
  pub key : 4 ≤ length l
  pub short : length l ≤ 800
  pub text : is_hex (drop 4 l) ≡ true

module _ (l : List ℕ) where
  conn_not : conn_item (drop 5 l) ≡ Some Hex → ⊥
  unfolding conn_item
  conn_not e = by (is_decimal (drop 5 l)) e where
    by : (t : Bool) → cond t (Some (Conn (value (drop 5 l)))) None ≡ Some Hex → ⊥
    by true f = let z : ◌≡◌ {A = ℕ} 0 1 = cc in omega arith
    by false f = let z : ◌≡◌ {A = ℕ} 0 1 = cc in omega arith

  hex_text : hex_item (drop 4 l) ≡ Some Hex → is_hex (drop 4 l) ≡ true
  unfolding hex_item
  hex_text e = by (is_hex (drop 4 l)) e where
    by : (t : Bool) → cond t (Some Hex) None ≡ Some Hex → t ≡ true
    by true f = refl
    by false f = let z : ◌≡◌ {A = ℕ} 0 1 = cc in absurd (omega arith)

  pub hex_line_lem : item_of l ≡ Some Hex → HexLine l
  unfolding item_of
  hex_line_lem e = by (ltb 800 (length l)) refl (same_bytes l op_req) (starts_with conn_key l) (starts_with hex_key l) refl e where
    by : (a : Bool) → ltb 800 (length l) ≡ a → (b k h : Bool) → starts_with hex_key l ≡ h
        → cond a None (cond b (Some Op) (cond k (conn_item (drop 5 l)) (cond h (hex_item (drop 4 l)) None))) ≡ Some Hex → HexLine l
    by true p b k h q f = let z : ◌≡◌ {A = ℕ} 0 1 = cc in absurd (omega arith)
    by false p true k h q f = let z : ◌≡◌ {A = ℕ} 0 1 = cc in absurd (omega arith)
    by false p false true h q f = absurd (conn_not f)
    by false p false false true q f = record { key = starts_fits hex_key l q; short = ltb-false 800 (length l) p; text = hex_text f }
    by false p false false false q f = let z : ◌≡◌ {A = ℕ} 0 1 = cc in absurd (omega arith)

-- the line of a plan that serves a frame
pub serve_line : (s : Script) (l : List ℕ) (i : Option Item) (p : Plan) (c : ℕ) → i ≡ item_of l → p ≡ plan_of s.awaits i → p ≡ Serve c → HexLine l
serve_line s l i p c e f g = hex_line_lem l (sym e ∙ serve_hex s.awaits i c (sym f ∙ g))

pub line_plan : (s : Script) (l : List ℕ) (i : Option Item) (p q : Plan) → i ≡ item_of l → p ≡ plan_of s.awaits i → p ≡ q → line_of s l ≡ outcome_of s l q
line_plan s l i p q e f g = line_planned s l q (ap (plan_of s.awaits) (sym e) ∙ sym f ∙ g)

-- ---- what is made of the mapper's answer: it told a, and wrote into a buffer `before`

module _ (o : mapper.Outcome) (a : Result ℕ Refusal) (before reply : List ℕ) (e : a ≡ o.answer) (w : reply ≡ written o.bytes before)
    (n : (numbers_of o.answer).written ≡ length o.bytes) where
  pub count_told : (numbers_of a).written ≡ length o.bytes
  count_told = ap (λ (x : Result ℕ Refusal). (numbers_of x).written) e ∙ n

  pub reply_holds : (numbers_of a).written ≤ length reply
  reply_holds = written_holds o.bytes before reply (numbers_of a).written w count_told

  reply_front : take (numbers_of a).written reply ≡ o.bytes
  reply_front = ap (take (numbers_of a).written) w ∙ written_front o.bytes before (numbers_of a).written count_told

  -- the text that is put is the outcome's
  pub answer_text_lem : answer_text (result_number a) (take (numbers_of a).written reply) ≡ (answered o).bytes
  answer_text_lem = ap₂ answer_text (ap result_number e) reply_front

-- ---- the input's end

pub end_text : (s : Script) → (end_of s).bytes ≡ ending s.awaits
unfolding end_of
end_text s = by (inside_group s.awaits) where
  by : (t : Bool) → (cond t (failed s.registry) (quiet s.registry s.awaits)).bytes ≡ cond t failure []
  by true = refl
  by false = refl

-- what the last line prints is all, or it prints nothing and the end prints the rest
module _ (s : Script) (l : List ℕ) where
  end_quiet : (p : Plan) → (length (outcome_of s l p).bytes ≡ 0 → ⊥) → ending (outcome_of s l p).script.awaits ≡ []
  end_quiet (Await a) h = absurd (h refl)
  end_quiet (Serve c) h = refl
  end_quiet Fail h = refl
  end_quiet Rest h = absurd (h refl)

  pub last_said : (length (line_of s l).bytes ≡ 0 → ⊥) → ending (line_of s l).script.awaits ≡ []
  unfolding line_of
  last_said h = end_quiet (plan_of s.awaits (item_of l)) h

pub last_none : (s : Script) (l : List ℕ) → length l ≡ 0 → to_print s l [] ≡ ending s.awaits
unfolding lines_from printed_from
last_none s l e = rw (eq-eqb (length l) 0 e) (end_text s)

pub last_line : (s : Script) (l : List ℕ) → (length l ≡ 0 → ⊥) → to_print s l [] ≡ (line_of s l).bytes ++ ending (line_of s l).script.awaits
unfolding lines_from printed_from
last_line s l h = rw (ne_eqb (length l) 0 h) (ap (λ (x : List ℕ). (line_of s l).bytes ++ x) (end_text (line_of s l).script))

pub empty_said : (l : List ℕ) → length l ≡ 0 → l ≡ []
empty_said [] e = refl
empty_said (x ∷ l) e = absurd (omega (arith, e))

-- the mapper of 01's script is made
pub mapper_made : (r : Registry) → if_made (new_of 4369 1).making (new_of 4369 1).registry r ≡ (new_of 4369 1).registry
unfolding new_of
mapper_made r = refl
