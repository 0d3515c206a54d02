-- What is proved of the mapper beside its contracts. Each claim names the theorem in proofs/ that is its proof.
use Rattle.std.specs.Prelude.{ℕ, ◌+◌, ◌≤◌, ◌<◌, ◌≡◌, Bool, true, false, cond, ◌&&◌, List, [], ◌∷◌, length, get_or, eqb, leb, Result, Ok, Err}
use Rattle.wire.specs.Claims.{Octets}
use Rattle.wire.specs.Frame.{framed, body}
use Rattle.wire.specs.Layout.{int_at, run_at}
use Rattle.names.specs.Held.{name_of, name_bytes}
use Rattle.names.specs.Node.{node_name}
use Rattle.epmd_rules.specs.declared.registration.Registration.{Registration}
use Rattle.epmd_rules.specs.State.{Registry}
use Rattle.epmd_rules.specs.declared.request.Request.{Request}
use Rattle.epmd_rules.specs.declared.request.Request.TheVariants.{Alive2, PortPlease2, Names}
use Rattle.epmd_rules.specs.declared.refusal.Refusal.{Refusal}
use Rattle.epmd_rules.specs.Messages.{alive2_req}
use Rattle.epmd_rules.specs.Registration.{free, is_free, extra_of, extra_bytes}
use Rattle.epmd_rules.specs.Registry.{new_of, entry_at, by_connection, lowest_free, stepped, close_of}
use Rattle.epmd_rules.specs.Requests.{room, examine_of}
use Rattle.epmd_rules.specs.Replies.{port2_found, port2_reply, names_reply}
use Rattle.epmd_rules.specs.Serve.{Outcome, replied, result_of, registration_of, request_of}
use Rattle.epmd_rules.specs.Answers.{numbers_of}

-- ---- the registries that making and calls can give

pub data Reachable : Registry → Type 0 where
  made : (port first : ℕ) → port ≤ 65535 → first ≤ 4294967295 → (new_of port first).making ≡ Ok tt → Reachable (new_of port first).registry
  requested : (r : Registry) (connection : ℕ) (frame : List ℕ) (given : ℕ) → Octets frame → Reachable r → Reachable (request_of r connection frame given).registry
  closed : (r : Registry) (connection : ℕ) → Reachable r → Reachable (close_of r connection).registry

-- the numbers of a place fit the fields that they are told in
pub record NumbersHeld (p : Registration) : Type 0 where
  pub port : p.port ≤ 65535
  pub kind : p.kind ≤ 255
  pub protocol : p.protocol ≤ 255
  pub highest : p.highest ≤ 65535
  pub lowest : p.lowest ≤ 65535

-- a place: free and all zero, or taken with a node's name and under a creation that is not 0; zero behind its lengths
pub record PlaceSound (p : Registration) : Type 0 where
  pub zero_if_free : is_free p ≡ true → p ≡ free
  pub created : is_free p ≡ false → (1 ≤ p.creation) × (p.creation ≤ 4294967295)
  pub named : is_free p ≡ false → node_name (name_bytes p.name) ≡ true
  pub name_held : length (name_bytes p.name) ≤ 255
  pub name_padded : p.name ≡ name_of (name_bytes p.name)
  pub extra_held : length (extra_bytes p.extra) ≤ 128
  pub extra_padded : p.extra ≡ extra_of (extra_bytes p.extra)
  pub numbers_held : NumbersHeld p

-- no two registrations share a name or a connection, no creation is 0, the next creation is 1 to 4,294,967,295 and the own port 0 to 65,535
pub record RegistrySound (r : Registry) : Type 0 where
  pub places : length r.registrations ≡ 64
  pub own_port_held : r.port ≤ 65535
  pub next_some : 1 ≤ r.next
  pub next_held : r.next ≤ 4294967295
  pub each : (i : ℕ) → i < 64 → PlaceSound (entry_at r i)
  pub names_apart : (i j : ℕ) → i < 64 → j < 64 → (i ≡ j → ⊥) → is_free (entry_at r i) ≡ false → is_free (entry_at r j) ≡ false
      → name_bytes (entry_at r i).name ≡ name_bytes (entry_at r j).name → ⊥
  pub connections_apart : (i j : ℕ) → i < 64 → j < 64 → (i ≡ j → ⊥) → is_free (entry_at r i) ≡ false → is_free (entry_at r j) ≡ false
      → (entry_at r i).connection ≡ (entry_at r j).connection → ⊥

-- every registry that making and calls can give is sound (Reachable.always_sound)
abbrev pub AlwaysSound : Type 0
AlwaysSound = (r : Registry) → Reachable r → RegistrySound r

-- ---- calls

-- the count told is the reply's length, and a call that tells a refusal wrote nothing and changed nothing (Calls.refusal_keeps)
pub record Keeps (r : Registry) (o : Outcome) : Type 0 where
  pub count : (numbers_of o.answer).written ≡ length o.bytes
  pub kept : ((numbers_of o.answer).refusal ≡ 0 → ⊥) → (o.registry ≡ r) × (o.bytes ≡ [])

abbrev pub RefusalKeeps : Type 0
RefusalKeeps = (r : Registry) (c : ℕ) (frame : List ℕ) (given : ℕ) → Keeps r (request_of r c frame given)

-- a registration that fails changes nothing, the next creation included (Calls.failure_keeps)
abbrev pub FailureKeeps : Type 0
FailureKeeps =
    (r : Registry) (c : ℕ) (frame : List ℕ) (given : ℕ) → examine_of frame given ≡ Ok Alive2
    → (result_of r c (run_at alive2_req 6 (body frame)) ≡ 0 → ⊥) → (request_of r c frame given).registry ≡ r

-- ---- ALIVE2's Result

-- a taken place of which something holds
pub record SomeTaken (r : Registry) (holds : Registration → Type 0) : Type 0 where
  pub place : ℕ
  pub within : place < 64
  pub taken : is_free (entry_at r place) ≡ false
  pub held : holds (entry_at r place)

-- "a name in use"
abbrev pub Named : List ℕ → Registration → Type 0
Named name p = name_bytes p.name ≡ name

abbrev pub NameInUse : Registry → List ℕ → Type 0
NameInUse r name = SomeTaken r (Named name)

-- "a connection that has a registration"
abbrev pub Connected : ℕ → Registration → Type 0
Connected c p = p.connection ≡ c

abbrev pub ConnectionRegistered : Registry → ℕ → Type 0
ConnectionRegistered r c = SomeTaken r (Connected c)

-- "no place": "all 64 places are taken"
abbrev pub NoPlace : Registry → Type 0
NoPlace r = (i : ℕ) → i < 64 → is_free (entry_at r i) ≡ false

-- "the lowest free place is filled with the next creation, and that number steps by one": no other place changes
pub record LowestFilled (r : Registry) (p : Registration) (s : Registry) : Type 0 where
  pub place : ℕ
  pub within : place < 64
  pub was_free : is_free (entry_at r place) ≡ true
  pub lowest : (i : ℕ) → i < place → is_free (entry_at r i) ≡ false
  pub here : entry_at s place ≡ p
  pub elsewhere : (i : ℕ) → (i ≡ place → ⊥) → entry_at s i ≡ entry_at r i
  pub next : s.next ≡ stepped r.next
  pub port : s.port ≡ r.port

-- the Result that a reply tells: the byte behind its tag; 256, which is no byte, where there is none
abbrev pub result_told : Outcome → ℕ
result_told o = get_or o.bytes 1 256

abbrev pub Exactly : Type 0 → Type 0 → Type 0
Exactly a b = (a → b) × (b → a)

-- what ALIVE2 with this name and registration is told on a connection, and what it changes
pub record Alive2Tells (r : Registry) (c : ℕ) (name : List ℕ) (p : Registration) (o : Outcome) : Type 0 where
  pub name_in_use : Exactly (result_told o ≡ 1) (NameInUse r name)
  pub connection_registered : Exactly (result_told o ≡ 2) ((NameInUse r name → ⊥) × ConnectionRegistered r c)
  pub no_place : Exactly (result_told o ≡ 3) ((NameInUse r name → ⊥) × (ConnectionRegistered r c → ⊥) × NoPlace r)
  pub registered : Exactly (result_told o ≡ 0) ((NameInUse r name → ⊥) × (ConnectionRegistered r c → ⊥) × (NoPlace r → ⊥))
  pub fills : result_told o ≡ 0 → LowestFilled r p o.registry
  pub keeps : (result_told o ≡ 0 → ⊥) → o.registry ≡ r

-- P2 over the call: Result is 1 exactly if the name is registered, 2 exactly if it is not and the connection has a registration, 3 exactly if
-- neither and all 64 places are taken, 0 exactly if none of the three, and then the lowest free place is filled; with 1, 2 and 3 nothing
-- changes (Results.result_tells)
abbrev pub ResultTells : Type 0
ResultTells =
    (r : Registry) (c : ℕ) (frame : List ℕ) (given : ℕ) → Reachable r → examine_of frame given ≡ Ok Alive2
    → Alive2Tells r c (run_at alive2_req 6 (body frame)) (registration_of c r.next (body frame)) (request_of r c frame given)

-- P2: "The creation field is 0 with each", in both replies (Results.creation_field_zero)
abbrev pub CreationFieldZero : Type 0
CreationFieldZero =
    (r : Registry) (c : ℕ) (frame : List ℕ) (given : ℕ) → examine_of frame given ≡ Ok Alive2
    → (result_told (request_of r c frame given) ≡ 0 → ⊥)
    → (request_of r c frame given).bytes
    ≡ cond (leb 6 (int_at alive2_req 4 (body frame)))
    (118 ∷ result_told (request_of r c frame given) ∷ 0 ∷ 0 ∷ 0 ∷ 0 ∷ [])
    (121 ∷ result_told (request_of r c frame given) ∷ 0 ∷ 0 ∷ [])

-- ---- creations and places

-- the creation after 4,294,967,295 is 1, after any other it is the next number, and none is 0 (Calls.creation_wraps)
abbrev pub CreationWraps : Type 0
CreationWraps =
    (stepped 4294967295 ≡ 1)
    × ((c : ℕ) → c < 4294967295 → stepped c ≡ c + 1)
    × ((c : ℕ) → 1 ≤ c → c ≤ 4294967295 → (1 ≤ stepped c) × (stepped c ≤ 4294967295))

-- a call, the registry after it, and whether it registers
pub data Call : Type 0 where
  request : (connection : ℕ) (frame : List ℕ) (given : ℕ) → Call
  close : (connection : ℕ) → Call

abbrev pub after : Registry → Call → Registry
after r (request c frame given) = (request_of r c frame given).registry
after r (close c) = (close_of r c).registry

abbrev pub is_alive2 : Result Request Refusal → Bool
is_alive2 (Err n) = false
is_alive2 (Ok Alive2) = true
is_alive2 (Ok PortPlease2) = false
is_alive2 (Ok Names) = false

abbrev pub registers : Registry → Call → Bool
registers r (request c frame given) = is_alive2 (examine_of frame given) && eqb (result_of r c (run_at alive2_req 6 (body frame))) 0
registers r (close c) = false

-- the next creation steps once with a registration, and stays with every other call: failed registrations, questions, NAMES, refusals and closes
-- (Next.next_steps)
abbrev pub NextSteps : Type 0
NextSteps = (r : Registry) (k : Call) → (after r k).next ≡ cond (registers r k) (stepped r.next) r.next

-- a taken place keeps what it holds until its connection is closed (Calls.taken_kept)
abbrev pub TakenKept : Type 0
TakenKept =
    (r : Registry) (c : ℕ) (frame : List ℕ) (given i : ℕ) → length r.registrations ≡ 64 → i < 64 → is_free (entry_at r i) ≡ false
    → entry_at (request_of r c frame given).registry i ≡ entry_at r i

-- and through the close of any other connection (Found.close_keeps)
abbrev pub CloseKeeps : Type 0
CloseKeeps =
    (r : Registry) (c i : ℕ) → Reachable r → i < 64 → is_free (entry_at r i) ≡ false → ((entry_at r i).connection ≡ c → ⊥)
    → entry_at (close_of r c).registry i ≡ entry_at r i

-- whenever it was registered, a name that is asked for is answered with its registration (Found.asked_found)
abbrev pub AskedFound : Type 0
AskedFound =
    (r : Registry) (i : ℕ) → Reachable r → i < 64 → is_free (entry_at r i) ≡ false
    → port2_reply r (name_bytes (entry_at r i).name) ≡ port2_found (entry_at r i)

-- over the call: so is a PORT_PLEASE2 frame for it (Found.call_finds)
abbrev pub CallFinds : Type 0
CallFinds =
    (r : Registry) (c given i : ℕ) → Reachable r → room ≤ given → i < 64 → is_free (entry_at r i) ≡ false
    → request_of r c (framed (122 ∷ name_bytes (entry_at r i).name)) given ≡ replied r (port2_found (entry_at r i))

-- what is asked for by name is what was registered under it (Reachable.registered_found)
abbrev pub RegisteredFound : Type 0
RegisteredFound =
    (r : Registry) (c : ℕ) (frame : List ℕ) (given : ℕ) → Reachable r → examine_of frame given ≡ Ok Alive2
    → result_of r c (run_at alive2_req 6 (body frame)) ≡ 0
    → port2_reply (request_of r c frame given).registry (run_at alive2_req 6 (body frame)) ≡ port2_found (registration_of c r.next (body frame))

-- a freed place is the next one taken if it is the lowest (Calls.freed_next)
abbrev pub FreedNext : Type 0
FreedNext =
    (r : Registry) (c : ℕ) → length r.registrations ≡ 64 → by_connection r c < 64 → by_connection r c ≤ lowest_free r
    → lowest_free (close_of r c).registry ≡ by_connection r c

-- no reply needs more than the room that a call asks for: NAMES, the longest, and any other (Reachable.names_fit, Found.replies_fit)
abbrev pub NamesFit : Type 0
NamesFit = (r : Registry) → Reachable r → length (names_reply r) ≤ room

abbrev pub RepliesFit : Type 0
RepliesFit = (r : Registry) (c : ℕ) (frame : List ℕ) (given : ℕ) → Reachable r → length (request_of r c frame given).bytes ≤ room

-- ---- all of it (Promises.promises): a claim that is not proved is missed here

pub record Promises : Type 0 where
  pub always_sound : AlwaysSound
  pub refusal_keeps : RefusalKeeps
  pub failure_keeps : FailureKeeps
  pub result_tells : ResultTells
  pub creation_field_zero : CreationFieldZero
  pub creation_wraps : CreationWraps
  pub next_steps : NextSteps
  pub taken_kept : TakenKept
  pub close_keeps : CloseKeeps
  pub asked_found : AskedFound
  pub call_finds : CallFinds
  pub registered_found : RegisteredFound
  pub freed_next : FreedNext
  pub names_fit : NamesFit
  pub replies_fit : RepliesFit
