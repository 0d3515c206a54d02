-- ALIVE2's Result: what it tells of a place, or of why there is none.
use Rattle.std.specs.Prelude.{ℕ, Result, Ok, Err}
use Rattle.epmd.specs.declared.result.Denied.{Denied}
use Rattle.epmd.specs.declared.result.Denied.TheVariants.{NameInUse, ConnectionRegistered, NoPlace}

-- P2: "1 for a name in use, 2 for a connection that has a registration, 3 for no place"
abbrev pub denied_number : Denied → ℕ
denied_number NameInUse = 1
denied_number ConnectionRegistered = 2
denied_number NoPlace = 3

-- "Otherwise Result is 0"
abbrev pub result_number : Result ℕ Denied → ℕ
result_number (Ok place) = 0
result_number (Err why) = denied_number why
