-- 01's number and values for each answer (01, Forms by place: "Where an answer is an enum, the promises use a definition that gives this paper's number
-- and values for each of its cases").
use Rattle.handshake_rules.specs.State.{Freed}
use Rattle.std.specs.Prelude.{ℕ, Bool, false, eqb, None, Some, Ok, Err, Result}
use Rattle.handshake_rules.specs.declared.refusal.Refusal.{Refusal}
use Rattle.handshake_rules.specs.declared.refusal.Why.{Why}
use Rattle.handshake_rules.specs.declared.endpoint.Answer.{Answer}
use Rattle.handshake_rules.specs.declared.endpoint.Answer.TheVariants.{Begun, Arrived, Closed, Answered}
use Rattle.handshake_rules.specs.Refusals.{only, why_of, message_fate, is_free, Check}
use Rattle.handshake_rules.specs.Endpoint.{stage_number}

-- no refusal, and no slot: what an answer has none of
abbrev pub unrefused : Why
unrefused = only 0

abbrev pub no_slot : ℕ
no_slot = 32

abbrev pub making_why : Check → Why
making_why (Ok _) = unrefused
making_why (Err r) = why_of r

abbrev pub freed_number : Freed → ℕ
freed_number None = no_slot
freed_number (Some s) = s

-- "Start and arrive tell the slot, start and message the count written, message also the slot's new stage and any other slot it freed."
pub record Numbers : Type 0 where
  pub why : Why
  pub slot : ℕ
  pub stage : ℕ
  pub freed : ℕ
  pub written : ℕ

-- beside a refusal, and where an answer does not tell it, a slot is 0, a stage 0, the other slot freed none, and the count 0
abbrev pub tells : Why → ℕ → ℕ → ℕ → ℕ → Numbers
tells why slot stage freed written = record { why = why; slot = slot; stage = stage; freed = freed; written = written }

abbrev pub numbers_of : Result Answer Refusal → Numbers
numbers_of (Err r) = tells (why_of r) 0 0 no_slot 0
numbers_of (Ok (Begun s n)) = tells unrefused s 0 no_slot n
numbers_of (Ok (Arrived s)) = tells unrefused s 0 no_slot 0
numbers_of (Ok Closed) = tells unrefused 0 0 no_slot 0
numbers_of (Ok (Answered st o n)) = tells unrefused 0 (stage_number st) (freed_number o) n

-- whether a message that is answered so leaves the slot named free: refused with a number that frees, or answered with that stage
abbrev pub ends_slot : Result Answer Refusal → Bool
ends_slot (Err r) = is_free (message_fate r)
ends_slot (Ok (Begun s n)) = false
ends_slot (Ok (Arrived s)) = false
ends_slot (Ok Closed) = false
ends_slot (Ok (Answered st o n)) = eqb (stage_number st) 0
