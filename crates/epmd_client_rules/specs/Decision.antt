-- What a writer tells, by its rules, its frame's size and the room for it: code decides by these alone, before it writes.
use Rattle.std.specs.Prelude.{ℕ, Result, Ok, Err, List, [], ◌∷◌, ◌++◌, leb}
use Rattle.epmd_rules.specs.declared.refusal.Refusal.{Refusal}
use Rattle.epmd_rules.specs.declared.refusal.Refusal.TheVariants.{OutputTooShort}
use Rattle.epmd_rules.specs.Requests.{Check, ◌else◌, first_refusal}

abbrev pub decided : List (Check Refusal) → (size given : ℕ) → Result ℕ Refusal
decided rules size given = first_refusal Err (rules ++ ((leb size given else OutputTooShort) ∷ [])) (Ok size)
