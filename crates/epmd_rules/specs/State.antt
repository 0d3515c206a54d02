-- What a registry holds, and what a call tells beside it. In the code a registry is bytes; specs/Bytes of epmd_state says which.
use Rattle.std.specs.Prelude.{ℕ, Bool, List, Result}
use Rattle.epmd_rules.specs.declared.registration.Registration.{Registration}
use Rattle.epmd_rules.specs.declared.refusal.Refusal.{Refusal}

pub record Registry : Type 0 where
  pub port : ℕ
  pub next : ℕ
  pub registrations : List Registration

pub record Made : Type 0 where
  pub making : Result Unit Refusal
  pub registry : Registry

pub record Served : Type 0 where
  pub registry : Registry
  pub answer : Result ℕ Refusal

-- `freed`: whether there was a registration to free
pub record Closed : Type 0 where
  pub registry : Registry
  pub freed : Bool
