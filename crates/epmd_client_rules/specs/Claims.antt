-- What is proved of a node's side beside its contracts. Each claim names the theorem in proofs/ that is its proof.
use Rattle.std.specs.Prelude.{ℕ, ◌+◌, ◌≤◌, ◌<◌, ◌≡◌, ◌⊎◌, Bool, false, cond, ◌&&◌, ◌||◌, not, List, [], ◌∷◌, length, eqb, leb, ltb, Result, Ok, Err}
use Rattle.wire.specs.Run.{part}
use Rattle.wire.specs.Frame.{body}
use Rattle.wire.specs.Layout.{behind, int_at, run_at}
use Rattle.wire.specs.Number.{be_at}
use Rattle.names.specs.Held.{name_of, name_bytes}
use Rattle.names.specs.Node.{node_name}
use Rattle.epmd_rules.specs.declared.registration.Registration.{Registration}
use Rattle.epmd_rules.specs.declared.request.Request.TheVariants.{Alive2, PortPlease2, Names}
use Rattle.epmd_rules.specs.State.{Registry}
use Rattle.epmd_rules.specs.Messages.{alive2_req, port_please2_req}
use Rattle.epmd_rules.specs.Registration.{is_free, extra_of, extra_bytes}
use Rattle.epmd_rules.specs.Registry.{by_name, entry_at}
use Rattle.epmd_rules.specs.Requests.{room, tag, versions_ok, examine_of}
use Rattle.epmd_rules.specs.Replies.{short_creation}
use Rattle.epmd_rules.specs.Serve.{result_of, registration_of, request_of}
use Rattle.epmd_rules.specs.Answers.{numbers_of}
use Rattle.epmd_rules.specs.Claims.{Reachable}
use Rattle.epmd_client_rules.specs.declared.unreadable.Unreadable.{Unreadable}
use Rattle.epmd_client_rules.specs.declared.unreadable.Unreadable.TheVariants.{Ambiguous}
use Rattle.epmd_client_rules.specs.declared.reply.Alive2Reply.{Alive2Reply}
use Rattle.epmd_client_rules.specs.declared.reply.Alive2Reply.TheVariants as alive2
use Rattle.epmd_client_rules.specs.declared.reply.Port2.{Port2}
use Rattle.epmd_client_rules.specs.declared.reply.Port2Reply.TheVariants as port2
use Rattle.epmd_client_rules.specs.declared.reply.NamesReply.{NamesReply}
use Rattle.epmd_client_rules.specs.Requests.{Writing, alive2_writing, port_please2_writing, names_writing}
use Rattle.epmd_client_rules.specs.Replies.{result_in, name_in, extra_in, alive2_read, port2_read}
use Rattle.epmd_client_rules.specs.Readings.{Line, Reading, listed, Tells}
use Rattle.epmd_client_rules.specs.Answers.{alive2_numbers, port2_numbers}
use Rattle.epmd_client_rules.specs.ReadingClaims.{ToldOnce, LinesLie, ReadExactly, ListingTold, PairAmbiguous}

-- ---- "a request written from allowed fields is accepted as those fields"

-- the numbers fit their fields, as the types of the code have it
pub record Fit (port kind protocol highest lowest : ℕ) : Type 0 where
  pub port_fits : port ≤ 65535
  pub kind_fits : kind ≤ 255
  pub protocol_fits : protocol ≤ 255
  pub highest_fits : highest ≤ 65535
  pub lowest_fits : lowest ≤ 65535

-- the registration with these fields
abbrev pub registration_with : (port kind protocol highest lowest : ℕ) (name extra : List ℕ) (connection creation : ℕ) → Registration
registration_with port kind protocol highest lowest name extra connection creation =
    record {
      name = name_of name;
      extra = extra_of extra;
      kind = kind;
      protocol = protocol;
      port = port;
      highest = highest;
      lowest = lowest;
      connection = connection;
      creation = creation;
    }

-- the mapper takes the frame for a registration, and what it registers has these fields
pub record Alive2Taken (frame : List ℕ) (port kind protocol highest lowest : ℕ) (name extra : List ℕ) : Type 0 where
  pub asked : (given : ℕ) → room ≤ given → examine_of frame given ≡ Ok Alive2
  pub named : run_at alive2_req 6 (body frame) ≡ name
  pub speaks : int_at alive2_req 4 (body frame) ≡ highest
  pub fields : (connection creation : ℕ)
      → registration_of connection creation (body frame) ≡ registration_with port kind protocol highest lowest name extra connection creation

-- for a question, and it looks for this name
pub record PortPlease2Taken (frame name : List ℕ) : Type 0 where
  pub asked : (given : ℕ) → room ≤ given → examine_of frame given ≡ Ok PortPlease2
  pub sought : behind port_please2_req (body frame) ≡ name

-- what a writer wrote is taken (Accepted.request_accepted)
pub record RequestAccepted : Type 0 where
  pub alive2 : (port kind protocol highest lowest : ℕ) (name extra : List ℕ) (given count : ℕ) → Fit port kind protocol highest lowest
      → (alive2_writing port kind protocol highest lowest name extra given).answer ≡ Ok count
      → Alive2Taken (alive2_writing port kind protocol highest lowest name extra given).bytes port kind protocol highest lowest name extra
  pub port_please2 : (name : List ℕ) (given count : ℕ) → (port_please2_writing name given).answer ≡ Ok count
      → PortPlease2Taken (port_please2_writing name given).bytes name
  pub names : (given count : ℕ) → (names_writing given).answer ≡ Ok count
      → (given' : ℕ) → room ≤ given' → examine_of (names_writing given).bytes given' ≡ Ok Names

-- ---- "Reading what the mapper wrote gives back the place's fields that the reply carries (from 121 the short creation), save under 20"

abbrev pub told_of : (tag result creation : ℕ) → Alive2Reply
told_of tag result creation = cond (eqb result 0) (alive2.Registered tag creation) (alive2.Failed tag result)

-- Result and creation
abbrev pub alive2_told : (highest result creation : ℕ) → Alive2Reply
alive2_told highest result creation = cond (leb 6 highest) (told_of 118 result creation) (told_of 121 result (short_creation creation))

-- the fields of a registration, its name behind the head of the reply, and its extra bytes behind that and Elen
abbrev pub port2_told : Registration → Port2
port2_told p =
    record {
      port = p.port;
      kind = p.kind;
      protocol = p.protocol;
      highest = p.highest;
      lowest = p.lowest;
      name = record { at = 12; len = length (name_bytes p.name) };
      extra = record { at = 14 + length (name_bytes p.name); len = length (extra_bytes p.extra) };
    }

pub record Port2Back (b : List ℕ) (place : ℕ) (p : Registration) : Type 0 where
  pub told : port2_read b ≡ Ok (cond (ltb place 64) (port2.Found (port2_told p)) (port2.Failed 1))
  pub name : place < 64 → part 12 (length (name_bytes p.name)) b ≡ name_bytes p.name
  pub extra : place < 64 → part (14 + length (name_bytes p.name)) (length (extra_bytes p.extra)) b ≡ extra_bytes p.extra

-- name and port of the taken places, in place order
abbrev pub lines_in : List Registration → List Line
lines_in [] = []
lines_in (p ∷ ps) = cond (is_free p) (lines_in ps) (record { name = name_bytes p.name; port = p.port } ∷ lines_in ps)

abbrev pub reading_of : Registry → Reading
reading_of r = record { own = r.port; lines = lines_in r.registrations }

-- over the call: whatever the mapper wrote, in a registry that calls can give (Called.reply_read)
pub record ReplyRead : Type 0 where
  pub alive2 : (r : Registry) (c : ℕ) (frame : List ℕ) (given : ℕ) → Reachable r → examine_of frame given ≡ Ok Alive2
      → alive2_read (request_of r c frame given).bytes
      ≡ Ok (alive2_told (int_at alive2_req 4 (body frame)) (result_of r c (run_at alive2_req 6 (body frame))) r.next)
  pub port2 : (r : Registry) (c : ℕ) (frame : List ℕ) (given : ℕ) → Reachable r → examine_of frame given ≡ Ok PortPlease2
      → Port2Back (request_of r c frame given).bytes (by_name r (behind port_please2_req (body frame))) (entry_at r (by_name r (behind port_please2_req (body frame))))
  pub names : (r : Registry) (c : ℕ) (frame : List ℕ) (given : ℕ) (told : Result NamesReply Unreadable) → Reachable r → examine_of frame given ≡ Ok Names
      → Tells (request_of r c frame given).bytes told
      → (told ≡ listed (reading_of r)) ⊎ (told ≡ Err Ambiguous)

-- both ends: a node that asks for a name that is registered reads its registration (Called.asked_and_read)
abbrev pub AskedAndRead : Type 0
AskedAndRead =
    (r : Registry) (c i given given' count : ℕ) → Reachable r → i < 64 → is_free (entry_at r i) ≡ false → room ≤ given'
    → (port_please2_writing (name_bytes (entry_at r i).name) given).answer ≡ Ok count
    → Port2Back (request_of r c (port_please2_writing (name_bytes (entry_at r i).name) given).bytes given').bytes i (entry_at r i)

-- both ends, and two nodes: where a node registers with Result 0, it reads its creation, and whoever asks for it then reads what it registered with
-- (Called.registered_and_read)
pub record Registered (told found : List ℕ) (creation : ℕ) (p : Registration) : Type 0 where
  pub told_creation : alive2_read told ≡ Ok (alive2_told p.highest 0 creation)
  pub found_back : Port2Back found 0 p

abbrev pub RegisteredAndRead : Type 0
RegisteredAndRead =
    (r : Registry) (c asker port kind protocol highest lowest : ℕ) (name extra : List ℕ) (given given' count count' reply reply' : ℕ) → Reachable r
    → Fit port kind protocol highest lowest → (alive2_writing port kind protocol highest lowest name extra given).answer ≡ Ok count
    → (port_please2_writing name given').answer ≡ Ok count' → result_of r c name ≡ 0 → room ≤ reply → room ≤ reply'
    → Registered (request_of r c (alive2_writing port kind protocol highest lowest name extra given).bytes reply).bytes
    (request_of (request_of r c (alive2_writing port kind protocol highest lowest name extra given).bytes reply).registry asker (port_please2_writing name given').bytes reply').bytes
    r.next (registration_with port kind protocol highest lowest name extra c r.next)

-- ---- replies of any kind

-- the name and the extra bytes that are told are the reply's own (Back.parts_lie)
abbrev pub PartsLie : Type 0
PartsLie =
    (b : List ℕ) (p : Port2) → port2_read b ≡ Ok (port2.Found p)
    → (part p.name.at p.name.len b ≡ name_in b) × (part p.extra.at p.extra.len b ≡ extra_in b)

-- ---- which number, exactly when: in each line the number is given if and only if what stands behind it holds (Exactly.refused_exactly)

abbrev pub gives : Writing → ℕ → Bool
gives w n = eqb (numbers_of w.answer).refusal n

-- a writer that tests extra, name, versions and room
pub record Alive2Gives (extra name versions long : Bool) (w : Writing) : Type 0 where
  pub five : gives w 5 ≡ not extra
  pub six : gives w 6 ≡ extra && not name
  pub seven : gives w 7 ≡ extra && name && not versions
  pub one : gives w 1 ≡ extra && name && versions && not long
  pub none : gives w 0 ≡ extra && name && versions && long

-- one that tests name and room, and one that tests room alone
pub record PortPlease2Gives (name long : Bool) (w : Writing) : Type 0 where
  pub six : gives w 6 ≡ not name
  pub one : gives w 1 ≡ name && not long
  pub none : gives w 0 ≡ name && long

pub record NamesGives (long : Bool) (w : Writing) : Type 0 where
  pub one : gives w 1 ≡ not long
  pub none : gives w 0 ≡ long

-- a reader that tests whether anything came, the tag, and the length
pub record ReplyGives (some tagged long : Bool) (refusal : ℕ) : Type 0 where
  pub four : eqb refusal 4 ≡ some && not tagged
  pub five : eqb refusal 5 ≡ not some || (tagged && not long)
  pub none : eqb refusal 0 ≡ some && tagged && long

-- 118: 6 bytes, 121: 4, whatever Result is; 119: 2 bytes with a Result above 0, else 14 + Nlen + Elen
abbrev pub alive2_reply_size : List ℕ → ℕ
alive2_reply_size b = cond (eqb (tag b) 118) 6 4

abbrev pub port2_reply_size : List ℕ → ℕ
port2_reply_size b = cond (eqb (result_in b) 0) (14 + be_at 2 10 b + be_at 2 (12 + be_at 2 10 b) b) 2

pub record RefusedExactly : Type 0 where
  pub alive2_request : (port kind protocol highest lowest : ℕ) (name extra : List ℕ) (given : ℕ)
      → Alive2Gives (leb (length extra) 128) (node_name name) (versions_ok highest lowest) (leb (15 + length name + length extra) given)
      (alive2_writing port kind protocol highest lowest name extra given)
  pub port_please2_request : (name : List ℕ) (given : ℕ) → PortPlease2Gives (node_name name) (leb (3 + length name) given) (port_please2_writing name given)
  pub names_request : (given : ℕ) → NamesGives (leb 3 given) (names_writing given)
  pub alive2_reply_lem : (b : List ℕ)
      → ReplyGives (leb 1 (length b)) (eqb (tag b) 118 || eqb (tag b) 121) (eqb (length b) (alive2_reply_size b)) (alive2_numbers (alive2_read b)).refusal
  pub port2_reply_lem : (b : List ℕ)
      → ReplyGives (leb 1 (length b)) (eqb (tag b) 119) (eqb (length b) (port2_reply_size b)) (port2_numbers (port2_read b)).refusal
  pub names_reply_lem : ReadExactly

-- ---- all of it (Promises.promises): a claim that is not proved is missed here

pub record Promises : Type 0 where
  pub request_accepted : RequestAccepted
  pub reply_read : ReplyRead
  pub asked_and_read : AskedAndRead
  pub registered_and_read : RegisteredAndRead
  pub parts_lie : PartsLie
  pub refused_exactly : RefusedExactly
  pub listing_told : ListingTold
  pub told_once : ToldOnce
  pub lines_lie : LinesLie
  pub pair_ambiguous : PairAmbiguous
