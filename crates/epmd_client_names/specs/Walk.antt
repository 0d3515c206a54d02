-- The one reading with the fewest lines, and where its names lie in the reply.
use Rattle.std.specs.Prelude.{ℕ, ◌≤◌, ◌≡◌, Option, Some, None, List, length, drop}
use Rattle.epmd_client_rules.specs.declared.reply.LineAt.{LineAt}
use Rattle.epmd_client_rules.specs.Readings.{Line, most, lines_told}
use Rattle.epmd_client_names.specs.declared.tally.Tally.{Tally}
use Rattle.epmd_client_names.specs.Survey.{Lines, FirstIs, Rows, Room, Begun}

-- from p on, the only reading with k lines or fewer
pub record Lead (s : List ℕ) (p k : ℕ) (x : List Line) : Type 0 where
  pub reads : Lines (drop p s) x
  pub lines : length x ≡ k
  pub only : (y : List Line) → Lines (drop p s) y → length y ≤ k → y ≡ x

-- a line begins at p, and k lines may be told
pub record Leading (s : List ℕ) (p k : ℕ) (tallies : List Tally) : Type 0 where
  pub begun : Begun s p tallies
  pub high : k ≤ most

-- its first name has n bytes; none only where there is no such reading
abbrev pub FirstLen : List ℕ → ℕ → ℕ → Option ℕ → Type 0
FirstLen s p k None = (x : List Line) → Lead s p k x → ⊥
FirstLen s p k (Some n) = ((x : List Line) → Lead s p k x → FirstIs n x) × (n ≤ 255)

pub record Walk (s : List ℕ) (tallies : List Tally) (count : ℕ) : Type 0 where
  pub room : Room s tallies
  pub rows : Rows s 0 tallies
  pub high : count ≤ most
  pub lead : (x : List Line) × Lead s 0 count x

-- its lines as they are told
abbrev pub Walked : List ℕ → ℕ → List LineAt → Type 0
Walked s count es = (x : List Line) → Lead s 0 count x → es ≡ lines_told x
