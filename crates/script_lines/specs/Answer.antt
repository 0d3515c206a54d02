-- 01, The script program: "prints `result=` (0 or the refusal) and `hex=` (the reply, empty if refused)".
use Rattle.std.specs.Prelude.{ℕ, ◌+◌, ◌*◌, List, [], ◌∷◌, ◌++◌, Result}
use Rattle.wire.specs.Decimal.{decimal}
use Rattle.epmd_rules.specs.Requests.{room}
use Rattle.epmd_rules.specs.Answers.{numbers_of}
use Rattle.epmd_rules.specs.declared.refusal.Refusal.{Refusal}
use Rattle.script_lines.specs.Text.{hex_of}

-- "result="
abbrev pub result_key : List ℕ
result_key = 114 ∷ 101 ∷ 115 ∷ 117 ∷ 108 ∷ 116 ∷ 61 ∷ []

-- a newline and "hex="
abbrev pub hex_line : List ℕ
hex_line = 10 ∷ 104 ∷ 101 ∷ 120 ∷ 61 ∷ []

-- both lines, each with its newline
unfoldable pub answer_text : ℕ → List ℕ → List ℕ
answer_text result reply = result_key ++ (decimal result ++ (hex_line ++ (hex_of reply ++ (10 ∷ []))))

abbrev pub result_number : Result ℕ Refusal → ℕ
result_number a = (numbers_of a).refusal

-- the longest answer: to NAMES
abbrev pub answer_room : ℕ
answer_room = 14 + 2 * room
