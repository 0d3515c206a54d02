-- What a node's exports do: 01's and 02's numbers for what they tell (epmd_rules/specs/Answers, epmd_client_rules/specs/Answers), and the output.
use Rattle.std.specs.Prelude.{ℕ, ◌≡◌, Result, List}
use Rattle.wire.specs.Output.{written}
use Rattle.epmd_rules.specs.declared.answer.Numbers.{Numbers}
use Rattle.epmd_rules.specs.Answers.{numbers_of}
use Rattle.epmd_client_rules.specs.declared.unreadable.Unreadable.{Unreadable}
use Rattle.epmd_client_rules.specs.declared.reply.NamesReply.{NamesReply}
use Rattle.epmd_client_rules.specs.declared.numbers.NamesNumbers.{NamesNumbers}
use Rattle.epmd_client_rules.specs.Requests.{Writing}
use Rattle.epmd_client_rules.specs.Readings as readings
use Rattle.epmd_client_rules.specs.Answers.{names_numbers}

-- a writer tells r, and leaves these bytes of the output
pub record Writes (w : Writing) (r : Numbers) (out left : List ℕ) : Type 0 where
  pub told : r ≡ numbers_of w.answer
  pub output : left ≡ written w.bytes out

-- the reader of NAMES tells the numbers of the answer that the reply's readings determine
pub record Tells (b : List ℕ) (r : NamesNumbers) : Type 0 where
  pub answer : Result NamesReply Unreadable
  pub read : readings.Tells b answer
  pub told : r ≡ names_numbers answer
