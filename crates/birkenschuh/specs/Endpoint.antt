-- What the endpoint's exports do: 01's numbers for what they tell (handshake_rules/specs/Answers), and the endpoint in the host's bytes.
use Rattle.std.specs.Prelude.{ℕ, ◌≡◌, Bool, cond, List, length, eqb, ltb, Result}
use Rattle.wire.specs.Output.{written}
use Rattle.names.specs.declared.held.Name.{Name}
use Rattle.names.specs.Held.{name_bytes}
use Rattle.handshake_rules.specs.State.{Freed, Told, Made}
use Rattle.handshake_rules.specs.declared.endpoint.Slot.{Slot}
use Rattle.handshake_rules.specs.declared.endpoint.Answer.{Answer}
use Rattle.handshake_rules.specs.declared.refusal.Refusal.{Refusal}
use Rattle.handshake_rules.specs.declared.refusal.Why.{Why}
use Rattle.handshake_rules.specs.Answers as rules
use Rattle.handshake_rules.specs.Endpoint.{stage_number}
use Rattle.handshake_rules.specs.Plans.{Done}
use Rattle.handshake_state.specs.Bytes.{endpoint_of, if_made}
use Rattle.birkenschuh.specs.declared.numbers.Numbers.{Numbers}
use Rattle.birkenschuh.specs.declared.endpoint.Made as d
use Rattle.birkenschuh.specs.declared.endpoint.Started as s
use Rattle.birkenschuh.specs.declared.endpoint.Arrived as a
use Rattle.birkenschuh.specs.declared.endpoint.Answered as m
use Rattle.birkenschuh.specs.declared.endpoint.SlotSeen.{SlotSeen}
use Rattle.birkenschuh.specs.declared.endpoint.Own.{Own}

-- ---- numbers that cross

abbrev pub flag : Bool → ℕ
flag b = cond b 1 0

-- a slot's number has 32 bits; from 32 on there is no slot, and 32 says so
abbrev pub slot_number : ℕ → ℕ
slot_number s = cond (ltb s rules.no_slot) s rules.no_slot

abbrev pub crossing : rules.Numbers → Bool → Numbers
crossing n ended =
    record {
      why = n.why;
      slot = slot_number n.slot;
      stage = n.stage;
      freed = slot_number n.freed;
      ended = flag ended;
      written = n.written;
    }

unfoldable pub told_of : Result Answer Refusal → Numbers
told_of x = crossing (rules.numbers_of x) (rules.ends_slot x)

-- of these, what each call tells
abbrev pub made_in : Why → d.Made
made_in y = record { refusal = y.number; missing = y.missing; lowest = y.lowest }

abbrev pub started_in : Numbers → s.Started
started_in n = record { refusal = n.why.number; slot = n.slot; written = n.written }

abbrev pub arrived_in : Numbers → a.Arrived
arrived_in n = record { refusal = n.why.number; slot = n.slot }

abbrev pub refusal_in : Numbers → ℕ
refusal_in n = n.why.number

abbrev pub answered_in : Numbers → m.Answered
answered_in n = record { refusal = n.why.number; stage = n.stage; freed = n.freed; ended = n.ended; written = n.written; missing = n.why.missing; lowest = n.why.lowest }

-- an answer to a message, by the number of its stage
abbrev pub answers : ℕ → Freed → ℕ → Numbers
answers stage other n = crossing (rules.tells rules.unrefused 0 stage (rules.freed_number other) n) (eqb stage 0)

-- ---- what a call did: r is what it told, `after` the bytes that it left of the endpoint, `out` and `left` the output before it and after it

pub record Tells {N : Type 0} (of : Numbers → N) (t : Told) (r : N) (after : List ℕ) : Type 0 where
  pub told : r ≡ of (told_of t.answer)
  pub endpoint : endpoint_of after ≡ t.endpoint

pub record Comes {N : Type 0} (of : Numbers → N) (d : Done) (r : N) (after out left : List ℕ) : Type 0 where
  pub told : r ≡ of (told_of d.told.answer)
  pub endpoint : endpoint_of after ≡ d.told.endpoint
  pub output : left ≡ written d.bytes out

-- where making refuses, the bytes hold what they held before
pub record Makes (m : Made) (r : d.Made) (before after : List ℕ) : Type 0 where
  pub told : r ≡ made_in (rules.making_why m.making)
  pub endpoint : endpoint_of after ≡ if_made m.making m.endpoint (endpoint_of before)

-- ---- what a host may see

abbrev pub seen_of : Slot → SlotSeen
seen_of s =
    record {
      stage = stage_number s.stage;
      creation = s.creation;
      challenge = s.challenge;
      flags = s.flags;
      len = length (name_bytes s.name);
      name = s.name.bytes;
    }

abbrev pub own_of : Name → ℕ → ℕ → Own
own_of n f c = record { flags = f; creation = c; len = length (name_bytes n); name = n.bytes }
