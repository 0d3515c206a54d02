-- One call of the mapper: what it tells, the registry after it, and the bytes that it writes.
use Rattle.std.specs.Prelude.{ℕ, ◌≤◌, ◌≡◌, cond, List, [], length, eqb, ltb, Result, Ok, Err}
use Rattle.wire.specs.Frame.{body}
use Rattle.wire.specs.Layout.{extent, behind, int_at, run_at}
use Rattle.names.specs.Held.{name_of}
use Rattle.epmd_rules.specs.declared.registration.Registration.{Registration}
use Rattle.epmd_rules.specs.State.{Registry}
use Rattle.epmd_rules.specs.declared.refusal.Refusal.{Refusal}
use Rattle.epmd_rules.specs.declared.request.Request.{Request}
use Rattle.epmd_rules.specs.declared.request.Request.TheVariants.{Alive2, PortPlease2, Names}
use Rattle.epmd_rules.specs.State.{Served}
use Rattle.epmd_rules.specs.Messages.{alive2_req, port_please2_req}
use Rattle.epmd_rules.specs.Registration.{extra_of}
use Rattle.epmd_rules.specs.Registry.{by_name, by_connection, lowest_free, filled}
use Rattle.epmd_rules.specs.Requests.{examine_of}
use Rattle.epmd_rules.specs.Replies.{alive2_reply, port2_reply, names_reply}

-- a body that holds an ALIVE2 request whose name and extra bytes can be held
pub record Alive2Body (b : List ℕ) : Type 0 where
  pub whole : length b ≡ extent alive2_req b
  pub name : length (run_at alive2_req 6 b) ≤ 255
  pub extra : length (run_at alive2_req 7 b) ≤ 128

pub record Outcome : Type 0 where
  pub registry : Registry
  pub answer : Result ℕ Refusal
  pub bytes : List ℕ

-- what the call hands back
abbrev pub told : Outcome → Served
told o = record { registry = o.registry; answer = o.answer }

-- "Replies are written from the first byte and their length is told"
abbrev pub replied : Registry → List ℕ → Outcome
replied r bs = record { registry = r; answer = Ok (length bs); bytes = bs }

-- "Every refusal writes no output. "Keep" changes nothing"
abbrev pub refused : Registry → Refusal → Outcome
refused r n = record { registry = r; answer = Err n; bytes = [] }

-- P2: "Make ALIVE2's Result 1 for a name in use, 2 for a connection that has a registration, 3 for no place, tested in that order." 01: "Otherwise
-- Result is 0"
abbrev pub result_by : ℕ → ℕ → ℕ → ℕ
result_by named connected vacant = cond (ltb named 64) 1 (cond (ltb connected 64) 2 (cond (ltb vacant 64) 0 3))

unfoldable pub result_of : Registry → ℕ → List ℕ → ℕ
result_of r c name = result_by (by_name r name) (by_connection r c) (lowest_free r)

-- the registration that an ALIVE2 body asks for
unfoldable pub registration_of : ℕ → ℕ → List ℕ → Registration
registration_of c creation b =
    record {
      name = name_of (run_at alive2_req 6 b);
      extra = extra_of (run_at alive2_req 7 b);
      kind = int_at alive2_req 2 b;
      protocol = int_at alive2_req 3 b;
      port = int_at alive2_req 1 b;
      highest = int_at alive2_req 4 b;
      lowest = int_at alive2_req 5 b;
      connection = c;
      creation = creation;
    }

-- "nothing then changes. Otherwise .. the lowest free place is filled with the next creation"
unfoldable pub alive2_of : Registry → ℕ → List ℕ → Outcome
alive2_of r c b =
    cond (eqb (result_of r c (run_at alive2_req 6 b)) 0)
    (replied (filled r (registration_of c r.next b)) (alive2_reply (int_at alive2_req 4 b) 0 r.next))
    (replied r (alive2_reply (int_at alive2_req 4 b) (result_of r c (run_at alive2_req 6 b)) 0))

unfoldable pub port2_of : Registry → List ℕ → Outcome
port2_of r b = replied r (port2_reply r (behind port_please2_req b))

unfoldable pub names_of : Registry → Outcome
names_of r = replied r (names_reply r)

-- the call: connection c lends a frame, and an output of so many bytes
abbrev pub outcome_of : Registry → ℕ → List ℕ → Result Request Refusal → Outcome
outcome_of r c b (Err n) = refused r n
outcome_of r c b (Ok Alive2) = alive2_of r c b
outcome_of r c b (Ok PortPlease2) = port2_of r b
outcome_of r c b (Ok Names) = names_of r

unfoldable pub request_of : Registry → ℕ → List ℕ → ℕ → Outcome
request_of r c frame given = outcome_of r c (body frame) (examine_of frame given)
