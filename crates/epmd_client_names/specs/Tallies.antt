-- What is kept of a set of readings of a text: its kind, and the fewest lines that one of them has.
use Rattle.std.specs.Prelude.{ℕ, ◌+◌, ◌≤◌, ◌<◌, ◌≡◌, Option, Some, None, Result, Ok, Err, cond, List, length, ltb}
use Rattle.epmd_client_rules.specs.declared.unreadable.Unreadable.{Unreadable}
use Rattle.epmd_client_rules.specs.declared.unreadable.Unreadable.TheVariants.{WrongLength, Ambiguous}
use Rattle.epmd_client_rules.specs.Readings.{Line, most}
use Rattle.epmd_client_names.specs.declared.tally.Tally.{Tally}
use Rattle.epmd_client_names.specs.declared.tally.Tally.TheVariants as tally

-- a set of readings
abbrev pub Set : Type 1
Set = List Line → Type 0

-- some, and all of more than 64 lines
abbrev pub Over : Set → Type 0
Over P = (x : List Line) × P x × ((y : List Line) → P y → most < length y)

-- exactly one
abbrev pub One : Set → ℕ → Type 0
One P k = (x : List Line) × P x × (length x ≡ k) × ((y : List Line) → P y → y ≡ x)

-- exactly one has the fewest lines, and another has more
abbrev pub Least : Set → ℕ → Type 0
Least P k = (x : List Line) × P x × (length x ≡ k) × ((y : List Line) → P y → length y ≤ k → y ≡ x) × (y : List Line) × P y × (k < length y)

-- two have the fewest lines
abbrev pub Several : Set → ℕ → Type 0
Several P k =
    (x : List Line) × (y : List Line) × P x × P y × (length x ≡ k) × (length y ≡ k) × (x ≡ y → ⊥) × ((z : List Line) → P z → k ≤ length z)

-- what a tally says; the fewest lines that it tells are at most 64
abbrev pub Means : Set → Tally → Type 0
Means P tally.Nothing = (x : List Line) → P x → ⊥
Means P tally.Over = Over P
Means P (tally.One k) = One P k × (k ≤ most)
Means P (tally.Least k) = Least P k × (k ≤ most)
Means P (tally.Several k) = Several P k × (k ≤ most)

-- the fewest lines, 65 for any more than 64
abbrev pub fewest_of : Tally → Option ℕ
fewest_of tally.Nothing = None
fewest_of tally.Over = Some (most + 1)
fewest_of (tally.One k) = Some k
fewest_of (tally.Least k) = Some k
fewest_of (tally.Several k) = Some k

-- with readings beside them that all have more lines
abbrev pub beaten_of : Tally → Tally
beaten_of tally.Nothing = tally.Nothing
beaten_of tally.Over = tally.Over
beaten_of (tally.One k) = tally.Least k
beaten_of (tally.Least k) = tally.Least k
beaten_of (tally.Several k) = tally.Several k

-- two with k lines each, and none with fewer
abbrev pub several_of : ℕ → Tally
several_of k = cond (ltb most k) tally.Over (tally.Several k)

-- of two sets that have no reading in common, by their fewest lines
abbrev pub join_by : Option ℕ → Option ℕ → Tally → Tally → Tally
join_by None k a b = b
join_by (Some i) None a b = a
join_by (Some i) (Some k) a b = cond (ltb i k) (beaten_of a) (cond (ltb k i) (beaten_of b) (several_of i))

unfoldable pub join_of : Tally → Tally → Tally
join_of a b = join_by (fewest_of a) (fewest_of b) a b

-- with one more line in front of each
abbrev pub longer_of : Tally → Tally
longer_of tally.Nothing = tally.Nothing
longer_of tally.Over = tally.Over
longer_of (tally.One k) = cond (ltb k most) (tally.One (k + 1)) tally.Over
longer_of (tally.Least k) = cond (ltb k most) (tally.Least (k + 1)) tally.Over
longer_of (tally.Several k) = cond (ltb k most) (tally.Several (k + 1)) tally.Over

-- what a tally of all readings says of those with at most 64 lines: how many lines the one has
abbrev pub verdict_of : Tally → Result ℕ Unreadable
verdict_of tally.Nothing = Err WrongLength
verdict_of tally.Over = Err WrongLength
verdict_of (tally.One k) = Ok k
verdict_of (tally.Least k) = cond (ltb k most) (Err Ambiguous) (Ok k)
verdict_of (tally.Several k) = Err Ambiguous
