-- How the code tells what handshake_rules/specs/Endpoint tells by a number: a slot's kind, and where a slot was found.
use Rattle.std.specs.Prelude.{ℕ, Option}
use Rattle.handshake_rules.specs.Endpoint.{idle, accepted, started, connected, is_slot, freed_at}
use Rattle.handshake_state.specs.declared.kind.Kind.{Kind}
use Rattle.handshake_state.specs.declared.kind.Kind.TheVariants.{Free, Accepted, Started, Connected}

abbrev pub kind_number : Kind → ℕ
kind_number Free = idle
kind_number Accepted = accepted
kind_number Started = started
kind_number Connected = connected

-- 32 is no slot
abbrev pub found : ℕ → Option ℕ
found n = freed_at n (is_slot n)
