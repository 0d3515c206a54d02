-- What an endpoint (01's gate) holds, and what a call tells beside it. In the code an endpoint is bytes; specs/Bytes says which.
use Rattle.handshake_rules.specs.Refusals.{Check}
use Rattle.std.specs.Prelude.{ℕ, List, Result, Option}
use Rattle.names.specs.declared.held.Name.{Name}
use Rattle.handshake_rules.specs.declared.endpoint.Slot.{Slot}
use Rattle.handshake_rules.specs.declared.endpoint.Answer.{Answer}
use Rattle.handshake_rules.specs.declared.refusal.Refusal.{Refusal}

pub record Endpoint : Type 0 where
  pub name : Name
  pub flags : ℕ
  pub creation : ℕ
  pub slots : List Slot

-- another slot that a message freed, if it freed one
abbrev pub Freed : Type 0
Freed = Option ℕ

pub record Told : Type 0 where
  pub answer : Result Answer Refusal
  pub endpoint : Endpoint

pub record Made : Type 0 where
  pub making : Check
  pub endpoint : Endpoint
