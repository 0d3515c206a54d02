-- Laws of the answer's lines, and of what the mapper answers. Assumes nothing.
use Prim.Native.Nat.{ℕ, ◌+◌, ◌*◌, ◌≤◌, ◌<◌}
use mathlib.Core.Path.{◌≡◌, sym, ap, ◌∙◌}
use mathlib.Core.List.{List, [], ◌∷◌, ◌++◌, append_assoc}
use native.Mathlib.Omega.{arith}
use lib.ListN.{length, take, drop, length-append}
use lib.Seq.{take_at}
use Rattle.wire.specs.Decimal.{decimal}
use Rattle.wire.specs.Output.{written}
use Rattle.wire.specs.Run.{part}
use Rattle.wire.proofs.DecimalLaws.{decimal_within}
use Rattle.epmd_rules.specs.declared.refusal.Refusal.{Refusal}
use Rattle.epmd_rules.specs.declared.refusal.Refusal.TheVariants.{OutputTooShort, NotAFrame, UnknownTag, BadLength, BadName, BadVersions, NotServed, ZeroCreation}
use Rattle.std.proofs.Common.{Result, Ok, Err}
use Rattle.epmd_rules.specs.Requests.{room, refusal_number}
use Rattle.epmd_rules.specs.Answers.{numbers_of}
use Rattle.script_lines.specs.Text.{hex_of}
use Rattle.script_lines.specs.Answer.{result_key, hex_line, answer_text, result_number, answer_room}
use Rattle.script_lines.specs.Script.{failure}
use Rattle.script_lines.proofs.TextLaws.{hex_length}

-- ---- the lines

pub answer_split : (n : ℕ) (bs : List ℕ) → (((result_key ++ decimal n) ++ hex_line) ++ hex_of bs) ++ (10 ∷ []) ≡ answer_text n bs
unfolding answer_text
answer_split n bs = simp append_assoc

pub answer_length : (n : ℕ) (bs : List ℕ) → length (answer_text n bs) ≡ 13 + length (decimal n) + 2 * length bs
unfolding answer_text
answer_length n bs = simp length-append (omega (arith, hex_length bs))

pub refusal_small : (r : Refusal) → refusal_number r < 100
refusal_small OutputTooShort = omega arith
refusal_small NotAFrame = omega arith
refusal_small UnknownTag = omega arith
refusal_small BadLength = omega arith
refusal_small BadName = omega arith
refusal_small BadVersions = omega arith
refusal_small NotServed = omega arith
refusal_small ZeroCreation = omega arith

-- with what the mapper told, and with the script's own number, they fit
pub answer_fits : (a : Result ℕ Refusal) (bs : List ℕ) → (numbers_of a).written ≡ length bs → length bs ≤ room → length (answer_text (result_number a) bs) ≤ answer_room
answer_fits (Ok k) bs e h = omega (arith, h, answer_length 0 bs, decimal_within 1 0 (omega arith) (omega arith) (omega arith))
answer_fits (Err r) bs e h =
    let n = refusal_number r in
    omega (arith, e, answer_length n bs, decimal_within 2 n (omega arith) (omega arith) (omega (arith, refusal_small r)))

pub failure_fits : length failure ≤ answer_room
failure_fits = omega (arith, answer_length 19 [], decimal_within 2 19 (omega arith) (omega arith) (omega arith))

-- ---- what stands in a buffer behind a write

pub written_front : (bs xs : List ℕ) (n : ℕ) → n ≡ length bs → take n (written bs xs) ≡ bs
unfolding written
written_front bs xs n e = take_at bs (drop (length bs) xs) n (sym e)

pub front_of : (bs xs ys : List ℕ) (n : ℕ) → ys ≡ written bs xs → n ≡ length bs → take n ys ≡ bs
front_of bs xs ys n e l = ap (take n) e ∙ written_front bs xs n l

pub part_front : (bs xs ys : List ℕ) (n : ℕ) → ys ≡ written bs xs → n ≡ length bs → part 0 n ys ≡ bs
unfolding part
part_front bs xs ys n e l = ap (take n) e ∙ written_front bs xs n l

pub written_holds : (bs xs ys : List ℕ) (n : ℕ) → ys ≡ written bs xs → n ≡ length bs → n ≤ length ys
unfolding written
written_holds bs xs ys n e l = omega (arith, simp length-append at (ap length e))
