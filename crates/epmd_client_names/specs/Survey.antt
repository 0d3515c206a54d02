-- The readings of a text from a place on, and what the table holds of them.
use Rattle.std.specs.Prelude.{ℕ, ◌+◌, ◌≤◌, ◌<◌, ◌≡◌, true, List, [], ◌∷◌, length, drop, get_or}
use Rattle.wire.specs.Table.{Each}
use Rattle.epmd_rules.specs.Replies.{name_word}
use Rattle.epmd_client_rules.specs.Readings.{lines_text, Allowed}
use Rattle.epmd_client_names.specs.declared.tally.Tally.{Tally}
use Rattle.epmd_client_names.specs.declared.tally.Tally.TheVariants.{Nothing}
use Rattle.epmd_client_names.specs.Text.{longest, has_at}
use Rattle.epmd_client_names.specs.Tallies.{Set, Means}

-- the lines xs, of any number, are a reading of the text s
abbrev pub Lines : List ℕ → Set
Lines s xs = (lines_text xs ≡ s) × Each Allowed xs

-- the first line's name has n bytes, or fewer
abbrev pub FirstIs : ℕ → Set
FirstIs n [] = ⊥
FirstIs n (x ∷ xs) = length x.name ≡ n

abbrev pub FirstBelow : ℕ → Set
FirstBelow n [] = ⊥
FirstBelow n (x ∷ xs) = length x.name < n

-- the readings from p on with such a first line
abbrev pub Exact : List ℕ → ℕ → ℕ → Set
Exact s p n xs = Lines (drop p s) xs × FirstIs n xs

abbrev pub Below : List ℕ → ℕ → ℕ → Set
Below s p n xs = Lines (drop p s) xs × FirstBelow n xs

-- the table holds the tally of each place from p on
abbrev pub Rows : List ℕ → ℕ → List Tally → Type 0
Rows s p tallies = (j : ℕ) → p ≤ j → j ≤ length s → Means (Lines (drop j s)) (get_or tallies j Nothing)

-- it is long enough
pub record Room (s : List ℕ) (tallies : List Tally) : Type 0 where
  pub fits : length s ≤ longest
  pub long : length s < length tallies

-- and filled behind p
pub record Place (s : List ℕ) (p : ℕ) (tallies : List Tally) : Type 0 where
  pub room : Room s tallies
  pub inside : p < length s
  pub rows : Rows s (p + 1) tallies

-- a line begins at p
pub record Begun (s : List ℕ) (p : ℕ) (tallies : List Tally) : Type 0 where
  pub place : Place s p tallies
  pub word : has_at s p name_word ≡ true

-- and its name may have n bytes
pub record Through (s : List ℕ) (p n : ℕ) (tallies : List Tally) : Type 0 where
  pub begun : Begun s p tallies
  pub high : n ≤ 255
