-- Laws of an input that comes in parts. Assumes nothing.
use Prim.Native.Nat.{ℕ, suc, min, ◌+◌, ◌-◌, ◌≤◌, ◌<◌}
use mathlib.Core.Path.{◌≡◌, refl, sym, ap, ◌∙◌}
use mathlib.Core.Bool.{Bool, true, false, cond}
use mathlib.Core.List.{List, [], ◌∷◌, ◌++◌, append_assoc}
use native.Mathlib.Omega.{arith}
use lib.ListN.{length, take, drop, length-append, length-take, length-drop}
use lib.Seq.{take_at, take_all, take-append-add, length-take-le}
use lib.Dec.{eqb, ltb}
use borrow.Author.Tests.{lt-ltb, le-ltb, ltb-true, ltb-false}
use Rattle.std.proofs.Common.{Some, None}
use Rattle.std.proofs.lemmas.List.{take_min}
use Rattle.wire.specs.Output.{overwrite}
use Rattle.wire.specs.Run.{part}
use Rattle.script_lines.specs.State.{Script}
use Rattle.script_lines.specs.Script.{line_of}
use Rattle.script_lines.specs.Lines.{up_to, kept, take_of}

-- the characters before a newline are the first ones
pub up_front : (xs : List ℕ) → take (length (up_to xs)) xs ≡ up_to xs
unfolding up_to
up_front [] = refl
up_front (c ∷ cs) = by (up_front cs) (eqb c 10) where
  by : take (length (up_to cs)) cs ≡ up_to cs → (t : Bool) → take (length (cond t [] (c ∷ up_to cs))) (c ∷ cs) ≡ cond t [] (c ∷ up_to cs)
  by h true = refl
  by h false = ap (λ (l : List ℕ). c ∷ l) h

pub up_all : (xs : List ℕ) → length xs ≤ length (up_to xs) → up_to xs ≡ xs
up_all xs h = sym (up_front xs) ∙ take_all (length (up_to xs)) xs h

-- what is held: `held` characters of the buffer, and as many more as there is room for
module _ (line t : List ℕ) (held : ℕ) (low : held ≤ 801) (long : length line ≡ 801) where
  kept_held : kept (take held line ++ t) ≡ take held line ++ take (801 - held) t
  kept_held =
      let l : length (take held line) ≡ held = length-take-le held line (omega arith) in
      let e : 801 ≡ length (take held line) + (801 - held) = omega (arith, l) in
      ap (λ (n : ℕ). take n (take held line ++ t)) e ∙ take-append-add (take held line) t (801 - held)

  pub kept_count : held + length (take (801 - held) t) ≡ length (kept (take held line ++ t))
  kept_count =
      let l : length (take held line) ≡ held = length-take-le held line (omega arith) in
      omega (arith, l, simp length-append at (ap length kept_held))

  pub kept_line : (n : ℕ) → n ≡ held + length (take (801 - held) t) → take n (overwrite line held (take (801 - held) t)) ≡ kept (take held line ++ t)
  unfolding overwrite
  kept_line n e =
      let m : List ℕ = take (801 - held) t in
      let l : length (take held line) ≡ held = length-take-le held line (omega arith) in
      let k : length (take held line ++ m) ≡ n = length-append (take held line) m ∙ omega (arith, l) in
      ap (take n) (sym (append_assoc (take held line) m (drop (held + length m) line)))
      ∙ take_at (take held line ++ m) (drop (held + length m) line) n k ∙ sym kept_held

  -- as many characters are added as there is room for, or as there are
  pub held_more : (n : ℕ) → n ≡ min (801 - held) (length t) → take (held + n) (overwrite line held (take n t)) ≡ kept (take held line ++ t)
  held_more n e =
      ap (λ (x : List ℕ). take (held + n) (overwrite line held x)) (ap (λ (k : ℕ). take k t) e ∙ take_min (801 - held) t)
      ∙ kept_line (held + n) (ap (λ (k : ℕ). held + k) (e ∙ sym (length-take (801 - held) t)))

-- what it says that the end of a line was found, or not
module _ (xs : List ℕ) where
  pub newline : (n : ℕ) → cond (ltb (length (up_to xs)) (length xs)) (Some (length (up_to xs))) None ≡ Some n → (length (up_to xs) < length xs) × (n ≡ length (up_to xs))
  newline n e = by (ltb (length (up_to xs)) (length xs)) refl e where
    by : (t : Bool) → ltb (length (up_to xs)) (length xs) ≡ t → cond t (Some (length (up_to xs))) None ≡ Some n → (length (up_to xs) < length xs) × (n ≡ length (up_to xs))
    by true q f = let z : length (up_to xs) ≡ n = cc in (ltb-true _ _ q, sym z)
    by false q f = let z : ◌≡◌ {A = ℕ} 0 1 = cc in absurd (omega arith)

  pub no_newline : cond (ltb (length (up_to xs)) (length xs)) (Some (length (up_to xs))) None ≡ None → length xs ≤ length (up_to xs)
  no_newline e = by (ltb (length (up_to xs)) (length xs)) refl e where
    by : (t : Bool) → ltb (length (up_to xs)) (length xs) ≡ t → cond t (Some (length (up_to xs))) None ≡ None → length xs ≤ length (up_to xs)
    by true q f = let z : ◌≡◌ {A = ℕ} 0 1 = cc in absurd (omega arith)
    by false q f = ltb-false _ _ q

-- both ways of taking
module _ (s : Script) (held xs : List ℕ) where
  pub take_line : length (up_to xs) < length xs → take_of s held xs
      ≡ record { script = (line_of s (kept (held ++ up_to xs))).script; held = []; bytes = (line_of s (kept (held ++ up_to xs))).bytes; rest = drop (suc (length (up_to xs))) xs }
  unfolding take_of
  take_line h = rw (lt-ltb (length (up_to xs)) (length xs) h)

  pub take_part : length xs ≤ length (up_to xs) → take_of s held xs ≡ record { script = s; held = kept (held ++ xs); bytes = []; rest = [] }
  unfolding take_of
  take_part h = rw (le-ltb (length (up_to xs)) (length xs) h)

-- the characters that a part has of a line
pub chars_there : (p : List ℕ) (from end : ℕ) → end ≡ from + length (up_to (drop from p)) → part from (end - from) p ≡ up_to (drop from p)
unfolding part
chars_there p from end e =
    let n : end - from ≡ length (up_to (drop from p)) = omega arith in
    ap (λ (k : ℕ). take k (drop from p)) n ∙ up_front (drop from p)

-- each turn takes something, and holds no more than there is room for
module _ (s : Script) (held xs : List ℕ) where
  pub take_goes : 1 ≤ length xs → length (take_of s held xs).rest < length xs
  take_goes h = by (ltb (length (up_to xs)) (length xs)) refl where
    by : (t : Bool) → ltb (length (up_to xs)) (length xs) ≡ t → length (take_of s held xs).rest < length xs
    by true e = rw (take_line s held xs (ltb-true (length (up_to xs)) (length xs) e)) (omega (arith, length-drop (suc (length (up_to xs))) xs))
    by false e = rw (take_part s held xs (ltb-false (length (up_to xs)) (length xs) e)) (omega arith)

  pub take_held : length (take_of s held xs).held ≤ 801
  take_held = by (ltb (length (up_to xs)) (length xs)) refl where
    by : (t : Bool) → ltb (length (up_to xs)) (length xs) ≡ t → length (take_of s held xs).held ≤ 801
    by true e = rw (take_line s held xs (ltb-true (length (up_to xs)) (length xs) e)) (omega arith)
    by false e = rw (take_part s held xs (ltb-false (length (up_to xs)) (length xs) e)) (omega (arith, length-take 801 (held ++ xs)))
