-- 02, P1. The readings of a NAMES reply: what could have been written as these bytes.
use Rattle.std.specs.Prelude.{ℕ, ◌+◌, ◌-◌, ◌≤◌, ◌≡◌, true, List, [], ◌∷◌, ◌++◌, length, replicate, Result, Ok, Err}
use Rattle.wire.specs.Number.{be}
use Rattle.wire.specs.Table.{table_bytes, Each}
use Rattle.names.specs.Node.{node_name}
use Rattle.epmd_rules.specs.Replies.{name_word, line_with}
use Rattle.epmd_client_rules.specs.declared.unreadable.Unreadable.{Unreadable}
use Rattle.epmd_client_rules.specs.declared.unreadable.Unreadable.TheVariants.{WrongLength, Ambiguous}
use Rattle.epmd_client_rules.specs.declared.reply.LineAt.{LineAt}
use Rattle.epmd_client_rules.specs.declared.reply.NamesReply.{NamesReply}

-- a line says a name and a port
pub record Line : Type 0 where
  pub name : List ℕ
  pub port : ℕ

-- "`name N at port P` and a newline"
abbrev pub line_text : Line → List ℕ
line_text x = line_with x.name x.port

abbrev pub lines_text : List Line → List ℕ
lines_text xs = table_bytes line_text xs

-- "by 01's rules"
pub record Allowed (x : Line) : Type 0 where
  pub name : node_name x.name ≡ true
  pub port : x.port ≤ 65535

-- "A reading of NAMES is an own port up to 65,535 and at most 64 lines by 01's rules, repeats allowed"
pub record Reading : Type 0 where
  pub own : ℕ
  pub lines : List Line

abbrev pub most : ℕ
most = 64

pub record Reads (b : List ℕ) (m : Reading) : Type 0 where
  pub text : be 4 m.own ++ lines_text m.lines ≡ b
  pub own : m.own ≤ 65535
  pub lines : Each Allowed m.lines
  pub few : length m.lines ≤ most

-- ---- what is told

-- where the names of lines lie that begin at an index
abbrev pub lines_at : ℕ → List Line → List LineAt
lines_at at [] = []
lines_at at (x ∷ xs) = record { at = at + length name_word; len = length x.name; port = x.port } ∷ lines_at (at + length (line_text x)) xs

abbrev pub no_line : LineAt
no_line = record { at = 0; len = 0; port = 0 }

-- the lines stand behind the own port's four bytes; zero behind the count
abbrev pub lines_told : List Line → List LineAt
lines_told xs = lines_at 4 xs ++ replicate (most - length xs) no_line

abbrev pub listed : Reading → Result NamesReply Unreadable
listed m = Ok (record { port = m.own; count = length m.lines; lines = lines_told m.lines })

-- "a reply with none gets 5. One readable in more than one way (names may hold newlines) is refused with a new number 20, exactly then."
pub data Tells (b : List ℕ) : Result NamesReply Unreadable → Type 0 where
  none : ((m : Reading) → Reads b m → ⊥) → Tells b (Err WrongLength)
  several : (m n : Reading) → Reads b m → Reads b n → (m ≡ n → ⊥) → Tells b (Err Ambiguous)
  only : (m : Reading) → Reads b m → ((n : Reading) → Reads b n → n ≡ m) → Tells b (listed m)
