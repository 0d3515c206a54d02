-- 01, "Frames worked by hand": C1 to C9, each what the definitions give beside what the paper says. Proved together (Frames.worked).
use Rattle.std.specs.Prelude.{ℕ, ◌≡◌, List, [], ◌∷◌, map, ℤ, pos, negsuc}
use Rattle.wire.specs.Run.{order, order_number}
use Rattle.wire.specs.Decimal.{decimal}
use Rattle.epmd_rules.specs.State.{Registry}
use Rattle.epmd_rules.specs.Registry.{new_of}
use Rattle.epmd_rules.specs.Requests.{room}
use Rattle.epmd_rules.specs.Answers.{numbers_of}
use Rattle.epmd_rules.specs.Serve.{Outcome, request_of}
use Rattle.handshake_rules.specs.Messages.{name_message, status_message, ok}

-- what a case gives: a reply with the refusal and the count that are told, bytes, or the number of a comparison
pub data Value : Type 0 where
  replied : (refusal count : ℕ) → List ℕ → Value
  bytes : List ℕ → Value
  number : ℤ → Value

pub record Case : Type 0 where
  pub computed : Value
  pub paper : Value

-- ---- the mapper of C1 to C4

-- the frame of C1: ALIVE2 of ride, port 4370
abbrev pub alive2 : List ℕ
alive2 =
    0x00 ∷ 0x11 ∷ 0x78 ∷ 0x11 ∷ 0x12 ∷ 0x4d ∷ 0x00 ∷ 0x00 ∷ 0x06 ∷ 0x00 ∷ 0x05 ∷ 0x00 ∷ 0x04 ∷ 0x72 ∷ 0x69 ∷ 0x64 ∷ 0x65 ∷ 0x00 ∷ 0x00 ∷ []

-- PORT_PLEASE2 of ride, and of a name that is not registered, "no"
abbrev pub asks_ride : List ℕ
asks_ride = 0x00 ∷ 0x05 ∷ 0x7a ∷ 0x72 ∷ 0x69 ∷ 0x64 ∷ 0x65 ∷ []

abbrev pub asks_unknown : List ℕ
asks_unknown = 0x00 ∷ 0x03 ∷ 0x7a ∷ 0x6e ∷ 0x6f ∷ []

-- a mapper whose next creation is 4, and the one after C1
abbrev pub before : Registry
before = (new_of 4369 4).registry

abbrev pub after : Registry
after = (request_of before 1 alive2 room).registry

-- the reply to a frame from a connection
abbrev pub told : Outcome → Value
told o = replied (numbers_of o.answer).refusal (numbers_of o.answer).written o.bytes

abbrev pub reply : Registry → ℕ → List ℕ → Value
reply r connection frame = told (request_of r connection frame room)

-- ---- the names of C5, C7 and C8

abbrev pub a_at_b : List ℕ
a_at_b = 0x61 ∷ 0x40 ∷ 0x62 ∷ []

abbrev pub a_at_bc : List ℕ
a_at_bc = 0x61 ∷ 0x40 ∷ 0x62 ∷ 0x63 ∷ []

abbrev pub a_at_z : List ℕ
a_at_z = 0x61 ∷ 0x40 ∷ 0x7a ∷ []

abbrev pub b_at_a : List ℕ
b_at_a = 0x62 ∷ 0x40 ∷ 0x61 ∷ []

-- ---- the cases

abbrev pub cases : List Case
cases =
    -- C1: ALIVE2 (ride, port 4370), next creation 4
    record { computed = reply before 1 alive2; paper = replied 0 6 (0x76 ∷ 0x00 ∷ 0x00 ∷ 0x00 ∷ 0x00 ∷ 0x04 ∷ []) }
    -- C2: then asked for ride
    ∷ record {
      computed = reply after 2 asks_ride;
      paper = replied 0 18 (0x77 ∷ 0x00 ∷ 0x11 ∷ 0x12 ∷ 0x4d ∷ 0x00 ∷ 0x00 ∷ 0x06 ∷ 0x00 ∷ 0x05 ∷ 0x00 ∷ 0x04 ∷ 0x72 ∷ 0x69 ∷ 0x64 ∷ 0x65 ∷ 0x00 ∷ 0x00 ∷ []);
    }
    -- C3: asked for an unknown name
    ∷ record { computed = reply after 2 asks_unknown; paper = replied 0 2 (0x77 ∷ 0x01 ∷ []) }
    -- C4: C1 again on another connection
    ∷ record { computed = reply after 2 alive2; paper = replied 0 6 (0x76 ∷ 0x01 ∷ 0x00 ∷ 0x00 ∷ 0x00 ∷ 0x00 ∷ []) }
    -- C5: name message of a@b, flags 16#403000104 (02, P3), creation 7
    ∷ record {
      computed = bytes (name_message 0x403000104 7 a_at_b);
      paper = bytes (0x00 ∷ 0x12 ∷ 0x4e ∷ 0x00 ∷ 0x00 ∷ 0x00 ∷ 0x04 ∷ 0x03 ∷ 0x00 ∷ 0x01 ∷ 0x04 ∷ 0x00 ∷ 0x00 ∷ 0x00 ∷ 0x07 ∷ 0x00 ∷ 0x03 ∷ 0x61 ∷ 0x40 ∷ 0x62 ∷ []);
    }
    -- C6: status ok
    ∷ record { computed = bytes (status_message ok); paper = bytes (0x00 ∷ 0x03 ∷ 0x73 ∷ 0x6f ∷ 0x6b ∷ []) }
    -- C7: a@b against a@bc: minus one
    ∷ record { computed = number (order_number (order a_at_b a_at_bc)); paper = number (negsuc 0) }
    -- C8: b@a against a@z: one
    ∷ record { computed = number (order_number (order b_at_a a_at_z)); paper = number (pos 1) }
    -- C9: challenge 0 as text is the one byte 30
    ∷ record { computed = bytes (decimal 0); paper = bytes (0x30 ∷ []) }
    ∷ []

-- in every case the definitions give what the paper says (Frames.worked)
abbrev pub Worked : Type 0
Worked = map (λ c. c.computed) cases ≡ map (λ c. c.paper) cases
