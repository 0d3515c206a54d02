-- An input that comes in parts prints what the whole prints. Assumes nothing.
use Prim.Native.Nat.{ℕ, zero, suc, ◌+◌, ◌-◌, ◌≤◌, ◌<◌}
use mathlib.Core.Path.{◌≡◌, refl, sym, ap, ◌∙◌}
use mathlib.Core.Bool.{Bool, true, false, cond}
use mathlib.Core.List.{List, [], ◌∷◌, ◌++◌, append_assoc, append-nil}
use native.Mathlib.Omega.{arith}
use lib.ListN.{length, take, drop, length-take, length-drop, drop_of_length-le}
use lib.Seq.{take_all, drop-drop}
use Rattle.wire.specs.Output.{overwrite}
use lib.Dec.{eqb, ltb}
use borrow.Author.Tests.{ltb-true, ltb-false, ne_eqb}
use Rattle.std.proofs.Common.{None}
use Rattle.script_lines.specs.declared.script.Awaits.{Awaits}
use Rattle.script_lines.specs.declared.script.Awaits.TheVariants.{Operation, Connection, Frame, Nothing}
use Rattle.script_lines.specs.State.{Script}
use Rattle.script_lines.specs.Line.{item_of}
use Rattle.script_lines.specs.Script.{Outcome, plan_of, outcome_of, line_of}
use Rattle.script_lines.specs.Lines.{up_to, lines_from, printed_from, to_print, kept, Taking, take_of, Printed}
use Rattle.script_lines.specs.Claims.{PartsPrint}
use Rattle.script_lines.proofs.LineLaws.{item_long}
use Rattle.script_lines.proofs.TakeLaws.{up_all, kept_count, kept_line, take_line, take_part}

-- ---- the first 801 characters of a line decide

-- a malformed line is not looked into
malformed_same : (s : Script) (l m : List ℕ) (a : Awaits) → outcome_of s l (plan_of a None) ≡ outcome_of s m (plan_of a None)
malformed_same s l m Operation = refl
malformed_same s l m Connection = refl
malformed_same s l m (Frame c) = refl
malformed_same s l m Nothing = refl

kept_same : (s : Script) (l : List ℕ) → line_of s (kept l) ≡ line_of s l
unfolding line_of
kept_same s l = by (ltb 801 (length l)) refl where
  by : (t : Bool) → ltb 801 (length l) ≡ t → outcome_of s (kept l) (plan_of s.awaits (item_of (kept l))) ≡ outcome_of s l (plan_of s.awaits (item_of l))
  by true e =
      let h : 801 < length l = ltb-true 801 (length l) e in
      let k : 800 < length (kept l) = omega (arith, length-take 801 l) in
      ap (λ i. outcome_of s (kept l) (plan_of s.awaits i)) (item_long (kept l) k)
      ∙ malformed_same s (kept l) l s.awaits
      ∙ ap (λ i. outcome_of s l (plan_of s.awaits i)) (sym (item_long l (omega arith)))
  by false e = ap (λ (x : List ℕ). outcome_of s x (plan_of s.awaits (item_of x))) (take_all 801 l (ltb-false 801 (length l) e))

kept_append : (n : ℕ) (h y : List ℕ) → take n (take n h ++ y) ≡ take n (h ++ y)
kept_append zero h y = refl
kept_append (suc n) [] y = refl
kept_append (suc n) (x ∷ h) y = ap (λ (l : List ℕ). x ∷ l) (kept_append n h y)

-- ---- lines

module _ (held : List ℕ) (c : ℕ) (cs : List ℕ) where
  lines_newline : eqb c 10 ≡ true → lines_from held (c ∷ cs) ≡ held ∷ lines_from [] cs
  unfolding lines_from
  lines_newline e = rw e

  lines_more : eqb c 10 ≡ false → lines_from held (c ∷ cs) ≡ lines_from (held ++ (c ∷ [])) cs
  unfolding lines_from
  lines_more e = rw e

lines_last : (x : ℕ) (h : List ℕ) → lines_from (x ∷ h) [] ≡ (x ∷ h) ∷ []
unfolding lines_from
lines_last x h = rw (ne_eqb (suc (length h)) 0 (λ z. omega arith))

printed_line : (s : Script) (l : List ℕ) (ls : List (List ℕ)) → printed_from s (l ∷ ls) ≡ (line_of s l).bytes ++ printed_from (line_of s l).script ls
unfolding printed_from
printed_line s l ls = refl

printed_kept : (s : Script) (l : List ℕ) (ls : List (List ℕ)) → printed_from s (kept l ∷ ls) ≡ printed_from s (l ∷ ls)
unfolding printed_from
printed_kept s l ls = ap (λ (o : Outcome). o.bytes ++ printed_from o.script ls) (kept_same s l)

-- so what is kept of a held line decides what is printed
held_kept : (s : Script) (held more : List ℕ) → to_print s (kept held) more ≡ to_print s held more
unfolding lines_from
held_kept s [] [] = refl
held_kept s (x ∷ h) [] = ap (printed_from s) (lines_last x (take 800 h)) ∙ printed_kept s (x ∷ h) [] ∙ sym (ap (printed_from s) (lines_last x h))
held_kept s held (c ∷ cs) = by (held_kept s (held ++ (c ∷ [])) cs) (held_kept s (kept held ++ (c ∷ [])) cs) (eqb c 10) where
  by : to_print s (kept (held ++ (c ∷ []))) cs ≡ to_print s (held ++ (c ∷ [])) cs → to_print s (kept (kept held ++ (c ∷ []))) cs ≡ to_print s (kept held ++ (c ∷ [])) cs
      → (t : Bool)
      → printed_from s (cond t (kept held ∷ lines_from [] cs) (lines_from (kept held ++ (c ∷ [])) cs)) ≡ printed_from s (cond t (held ∷ lines_from [] cs) (lines_from (held ++ (c ∷ [])) cs))
  by p q true = printed_kept s held (lines_from [] cs)
  by p q false = sym q ∙ ap (λ (l : List ℕ). to_print s l cs) (kept_append 801 held (c ∷ [])) ∙ p

-- ---- a part with a newline, and one without

lines_whole : (held xs more : List ℕ) → length (up_to xs) < length xs → lines_from held (xs ++ more) ≡ (held ++ up_to xs) ∷ lines_from [] (drop (suc (length (up_to xs))) xs ++ more)
unfolding up_to
lines_whole held [] more h = absurd (omega arith)
lines_whole held (c ∷ cs) more h = by (λ k. lines_whole (held ++ (c ∷ [])) cs more k) (eqb c 10) refl h where
  by : (length (up_to cs) < length cs → lines_from (held ++ (c ∷ [])) (cs ++ more) ≡ ((held ++ (c ∷ [])) ++ up_to cs) ∷ lines_from [] (drop (suc (length (up_to cs))) cs ++ more))
      → (t : Bool) → eqb c 10 ≡ t → length (cond t [] (c ∷ up_to cs)) < length (c ∷ cs)
      → lines_from held (c ∷ (cs ++ more)) ≡ (held ++ cond t [] (c ∷ up_to cs)) ∷ lines_from [] (drop (suc (length (cond t [] (c ∷ up_to cs)))) (c ∷ cs) ++ more)
  by later true e k = lines_newline held c (cs ++ more) e ∙ ap (λ (l : List ℕ). l ∷ lines_from [] (cs ++ more)) (sym (append-nil held))
  by later false e k =
      lines_more held c (cs ++ more) e ∙ later (omega arith)
      ∙ ap (λ (l : List ℕ). l ∷ lines_from [] (drop (suc (length (up_to cs))) cs ++ more)) (append_assoc held (c ∷ []) (up_to cs))

lines_part : (held xs more : List ℕ) → length xs ≤ length (up_to xs) → lines_from held (xs ++ more) ≡ lines_from (held ++ xs) more
unfolding up_to
lines_part held [] more h = ap (λ (l : List ℕ). lines_from l more) (sym (append-nil held))
lines_part held (c ∷ cs) more h = by (λ k. lines_part (held ++ (c ∷ [])) cs more k) (eqb c 10) refl h where
  by : (length cs ≤ length (up_to cs) → lines_from (held ++ (c ∷ [])) (cs ++ more) ≡ lines_from ((held ++ (c ∷ [])) ++ cs) more)
      → (t : Bool) → eqb c 10 ≡ t → length (c ∷ cs) ≤ length (cond t [] (c ∷ up_to cs)) → lines_from held (c ∷ (cs ++ more)) ≡ lines_from (held ++ (c ∷ cs)) more
  by later true e k = absurd (omega arith)
  by later false e k = lines_more held c (cs ++ more) e ∙ later (omega arith) ∙ ap (λ (l : List ℕ). lines_from l more) (append_assoc held (c ∷ []) cs)

-- THE LAW
pub parts_print : PartsPrint
parts_print s held xs more = by (ltb (length (up_to xs)) (length xs)) refl where
  by : (t : Bool) → ltb (length (up_to xs)) (length xs) ≡ t
      → to_print s held (xs ++ more) ≡ (take_of s held xs).bytes ++ to_print (take_of s held xs).script (take_of s held xs).held ((take_of s held xs).rest ++ more)
  by true e =
      let h = ltb-true (length (up_to xs)) (length xs) e in
      let ls : List (List ℕ) = lines_from [] (drop (suc (length (up_to xs))) xs ++ more) in
      rw (take_line s held xs h)
      (ap (printed_from s) (lines_whole held xs more h) ∙ sym (printed_kept s (held ++ up_to xs) ls) ∙ printed_line s (kept (held ++ up_to xs)) ls)
  by false e =
      let h = ltb-false (length (up_to xs)) (length xs) e in
      rw (take_part s held xs h) (ap (printed_from s) (lines_part held xs more h) ∙ sym (held_kept s (held ++ xs) more))

-- ---- as the code goes through a part

-- what a call that took has in its buffer, and what is left of the part
module _ (s : Script) (part line : List ℕ) (from held n next : ℕ) (low : held ≤ 801) (long : length line ≡ 801) (start : from ≤ length part) where
  abbrev there : Taking
  there = take_of s (take held line) (drop from part)

  abbrev after : List ℕ
  after = overwrite line held (take (801 - held) (up_to (drop from part)))

  pub turned : n ≡ length there.held → next ≡ length part - length there.rest → (take n after ≡ there.held) × (drop next part ≡ there.rest)
  turned e f = by (ltb (length (up_to (drop from part))) (length (drop from part))) refl where
    by : (t : Bool) → ltb (length (up_to (drop from part))) (length (drop from part)) ≡ t → (take n after ≡ there.held) × (drop next part ≡ there.rest)
    by true q =
        let r = take_line s (take held line) (drop from part) (ltb-true (length (up_to (drop from part))) (length (drop from part)) q) in
        let h : n ≡ 0 = e ∙ ap (λ (x : Taking). length x.held) r in
        let k : next ≡ from + suc (length (up_to (drop from part))) =
        omega (
          arith,
          f,
          ap (λ (x : Taking). length x.rest) r,
          length-drop (suc (length (up_to (drop from part)))) (drop from part),
          length-drop from part,
          ltb-true (length (up_to (drop from part))) (length (drop from part)) q,
        ) in (
          ap (λ (j : ℕ). take j after) h ∙ sym (ap (λ (x : Taking). x.held) r),
          ap (λ (j : ℕ). drop j part) k ∙ sym (drop-drop (suc (length (up_to (drop from part)))) from part) ∙ sym (ap (λ (x : Taking). x.rest) r),
        )
    by false q =
        let l = ltb-false (length (up_to (drop from part))) (length (drop from part)) q in
        let r = take_part s (take held line) (drop from part) l in
        let u = up_all (drop from part) l in
        let h : n ≡ held + length (take (801 - held) (up_to (drop from part))) =
        e ∙ ap (λ (x : Taking). length x.held) r ∙ ap (λ (x : List ℕ). length (kept (take held line ++ x))) (sym u) ∙ sym (kept_count line (up_to (drop from part)) held low long) in
        let k : length part ≤ next = omega (arith, f, ap (λ (x : Taking). length x.rest) r) in (
          kept_line line (up_to (drop from part)) held low long n h ∙ ap (λ (x : List ℕ). kept (take held line ++ x)) u ∙ sym (ap (λ (x : Taking). x.held) r),
          drop_of_length-le part k ∙ sym (ap (λ (x : Taking). x.rest) r),
        )

unfoldable pub printed_none : (s : Script) (held xs : List ℕ) → Printed s held xs s held xs
printed_none s held xs = record { bytes = []; is = λ more. refl }

unfoldable pub printed_more : (s : Script) (held xs : List ℕ) (s₁ : Script) (held₁ rest₁ : List ℕ) (s₂ : Script) (held₂ rest₂ : List ℕ) → Printed s held xs s₁ held₁ rest₁
    → s₂ ≡ (take_of s₁ held₁ rest₁).script → held₂ ≡ (take_of s₁ held₁ rest₁).held → rest₂ ≡ (take_of s₁ held₁ rest₁).rest
    → Printed s held xs s₂ held₂ rest₂
printed_more s held xs s₁ held₁ rest₁ s₂ held₂ rest₂ p e f g =
    let t = take_of s₁ held₁ rest₁ in
    record {
      bytes = p.bytes ++ t.bytes;
      is = λ more.
          p.is more
          ∙ ap (λ (l : List ℕ). p.bytes ++ l) (parts_print s₁ held₁ rest₁ more)
          ∙ sym (append_assoc p.bytes t.bytes (to_print t.script t.held (t.rest ++ more)))
          ∙ ap (λ (l : List ℕ). (p.bytes ++ t.bytes) ++ l) (sym (λ i. to_print (e i) (f i) (g i ++ more)));
    }
