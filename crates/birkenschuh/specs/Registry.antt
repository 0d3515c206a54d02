-- What the mapper's exports do: 01's numbers for what they tell (epmd_rules/specs/Answers), and the registry in the host's bytes.
use Rattle.std.specs.Prelude.{ℕ, ◌≡◌, List}
use Rattle.wire.specs.Output.{written}
use Rattle.epmd_rules.specs.State.{Made}
use Rattle.epmd_rules.specs.declared.answer.Numbers.{Numbers}
use Rattle.epmd_rules.specs.Answers.{numbers_of, making_number}
use Rattle.epmd_rules.specs.Serve.{Outcome}
use Rattle.epmd_state.specs.Bytes.{registry_of, if_made}

-- making tells r, and leaves a registry in the host's bytes; where it refuses, they hold what they held before
pub record Makes (m : Made) (r : ℕ) (before after : List ℕ) : Type 0 where
  pub told : r ≡ making_number m.making
  pub registry : registry_of after ≡ if_made m.making m.registry (registry_of before)

-- a request tells r, leaves these bytes of the registry, and of the output
pub record Serves (o : Outcome) (r : Numbers) (after out left : List ℕ) : Type 0 where
  pub told : r ≡ numbers_of o.answer
  pub registry : registry_of after ≡ o.registry
  pub output : left ≡ written o.bytes out
