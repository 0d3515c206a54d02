-- 01's number and values for each answer of the mapper: a refusal is its number, and 0 is none; the count written is 0 beside a refusal.
use Rattle.std.specs.Prelude.{ℕ, Result, Ok, Err}
use Rattle.epmd_rules.specs.declared.answer.Numbers.{Numbers}
use Rattle.epmd_rules.specs.declared.refusal.Refusal.{Refusal}
use Rattle.epmd_rules.specs.Requests.{refusal_number}

abbrev pub numbers_of : Result ℕ Refusal → Numbers
numbers_of (Ok n) = record { refusal = 0; written = n }
numbers_of (Err r) = record { refusal = refusal_number r; written = 0 }

abbrev pub making_number : Result Unit Refusal → ℕ
making_number (Ok _) = 0
making_number (Err r) = refusal_number r
