-- What is proved of a NAMES reply's readings, and of the answer. Each claim names the theorem in proofs/ that is its proof.
use Rattle.std.specs.Prelude.{ℕ, ◌+◌, ◌≤◌, ◌≡◌, ◌↔◌, List, ◌∷◌, ◌++◌, map, length, Result}
use Rattle.wire.specs.Run.{part}
use Rattle.epmd_client_rules.specs.declared.unreadable.Unreadable.{Unreadable}
use Rattle.epmd_client_rules.specs.declared.reply.LineAt.{LineAt}
use Rattle.epmd_client_rules.specs.declared.reply.NamesReply.{NamesReply}
use Rattle.epmd_client_rules.specs.Readings.{Line, line_text, Reading, Reads, lines_at, Tells}
use Rattle.epmd_client_rules.specs.Answers.{listing_number, names_numbers}

-- the answer is fixed by the reply (ReadingLaws.told_once)
abbrev pub ToldOnce : Type 0
ToldOnce = (b : List ℕ) (r s : Result NamesReply Unreadable) → Tells b r → Tells b s → r ≡ s

-- "a reply with none gets 5. One readable in more than one way .. is refused with a new number 20, exactly then."
abbrev pub NoReading : List ℕ → Type 0
NoReading b = (m : Reading) → Reads b m → ⊥

abbrev pub TwoReadings : List ℕ → Type 0
TwoReadings b = (m : Reading) × (n : Reading) × Reads b m × Reads b n × (m ≡ n → ⊥)

abbrev pub OneReading : List ℕ → Type 0
OneReading b = (m : Reading) × Reads b m × ((n : Reading) → Reads b n → n ≡ m)

pub record ReadAs (b : List ℕ) (number : ℕ) : Type 0 where
  pub none : (number ≡ 5) ↔ NoReading b
  pub several : (number ≡ 20) ↔ TwoReadings b
  pub only : (number ≡ 0) ↔ OneReading b

-- (ReadingLaws.read_exactly)
abbrev pub ReadExactly : Type 0
ReadExactly = (b : List ℕ) (r : Result NamesReply Unreadable) → Tells b r → ReadAs b (listing_number r)

-- and that number is the one that a host is told (ReadingLaws.listing_told)
abbrev pub ListingTold : Type 0
ListingTold = (r : Result NamesReply Unreadable) → (names_numbers r).refusal ≡ listing_number r

-- the line that a place in a reply stands for
abbrev pub line_in : List ℕ → LineAt → Line
line_in b e = record { name = part e.at e.len b; port = e.port }

-- every name lies where it is told to lie (ReadingLaws.lines_lie)
abbrev pub LinesLie : Type 0
LinesLie = (b : List ℕ) (m : Reading) → Reads b m → map (line_in b) (lines_at 4 m.lines) ≡ m.lines

-- "(names may hold newlines)": of two lines side by side, if the first with its newline and the second's name make up at most 255 bytes, there is
-- another reading, in which a name holds them both: nearly every reply with two short names is ambiguous (Pairs.pair_ambiguous)
abbrev pub PairAmbiguous : Type 0
PairAmbiguous =
    (b : List ℕ) (m : Reading) (before : List Line) (x y : Line) (after : List Line) → Reads b m → m.lines ≡ before ++ (x ∷ y ∷ after)
    → length (line_text x) + length y.name ≤ 255 → (n : Reading) × Reads b n × (n ≡ m → ⊥)
