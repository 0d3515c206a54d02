-- The state of a run between lines. In the code the registry is bytes, which epmd_state's specs/Bytes reads.
use Rattle.std.specs.Prelude.{List, ℕ}
use Rattle.epmd_rules.specs.State.{Registry}
use Rattle.epmd_state.specs.Bytes.{registry_of}
use Rattle.script_lines.specs.declared.script.Awaits.{Awaits}
use Rattle.script_lines.specs.declared.script.Run.{Run}

pub record Script : Type 0 where
  pub registry : Registry
  pub awaits : Awaits

-- a run that awaits this line, with a registry in these bytes
abbrev pub script_in : Awaits → List ℕ → Script
script_in a b = record { registry = registry_of b; awaits = a }

-- the same of the code's
abbrev pub script_of : Run → Script
script_of r = script_in r.awaits r.registry
