-- A registry as it lies in bytes that a host lends: its own port and next creation, and 64 records. Sizes follow from the layouts.
use Rattle.std.specs.Prelude.{ℕ, ◌+◌, ◌-◌, ◌*◌, ◌≡◌, Bool, cond, ◌&&◌, Option, Some, None, Result, Ok, Err, List, [], ◌∷◌, ◌++◌, length, get_or, drop, set, eqb, ltb}
use Rattle.std.specs.Simd.{first_chunks}
use Rattle.wire.specs.Table.{table, table_bytes}
use Rattle.wire.specs.Output.{written}
use Rattle.wire.specs.Layout.{number, bytes, Layout, Value, int, run, encode, decode, width, int_of, run_of, int_at}
use Rattle.names.specs.Held.{name_bytes}
use Rattle.epmd_rules.specs.State.{Registry, Made, Closed}
use Rattle.epmd_rules.specs.declared.registration.Registration.{Registration}
use Rattle.epmd_rules.specs.declared.refusal.Refusal.{Refusal}
use Rattle.epmd_rules.specs.Serve.{Outcome}

-- ---- layouts

-- the own port, the next creation
abbrev pub head_l : Layout
head_l = number 2 ∷ number 4 ∷ []

-- a record: the length of the name and the name, the length of the extra bytes and these, and then kind, protocol, port, highest, lowest,
-- connection, creation
abbrev pub tail_l : Layout
tail_l = number 1 ∷ number 1 ∷ number 2 ∷ number 2 ∷ number 2 ∷ number 4 ∷ number 4 ∷ []

abbrev pub text_l : Layout
text_l = number 1 ∷ bytes 255 ∷ number 1 ∷ bytes 128 ∷ []

abbrev pub entry_l : Layout
entry_l = text_l ++ tail_l

abbrev pub places : ℕ
places = 64

abbrev pub head_size : ℕ
head_size = width head_l

-- where the numbers of a record begin
abbrev pub tail_at : ℕ
tail_at = width text_l

abbrev pub entry_size : ℕ
entry_size = width entry_l

abbrev pub size : ℕ
size = head_size + places * entry_size

-- ---- what the bytes hold

abbrev pub tail_values : Registration → List Value
tail_values p = int p.kind ∷ int p.protocol ∷ int p.port ∷ int p.highest ∷ int p.lowest ∷ int p.connection ∷ int p.creation ∷ []

abbrev pub entry_values : Registration → List Value
entry_values p = int p.name.len ∷ run p.name.bytes ∷ int p.extra.len ∷ run p.extra.bytes ∷ tail_values p

abbrev pub entry_bytes : Registration → List ℕ
entry_bytes p = encode entry_l (entry_values p)

-- the numbers of a record
abbrev pub kind_in : List ℕ → ℕ
kind_in b = int_at entry_l 4 b

abbrev pub protocol_in : List ℕ → ℕ
protocol_in b = int_at entry_l 5 b

abbrev pub port_in : List ℕ → ℕ
port_in b = int_at entry_l 6 b

abbrev pub highest_in : List ℕ → ℕ
highest_in b = int_at entry_l 7 b

abbrev pub lowest_in : List ℕ → ℕ
lowest_in b = int_at entry_l 8 b

abbrev pub connection_in : List ℕ → ℕ
connection_in b = int_at entry_l 9 b

abbrev pub creation_in : List ℕ → ℕ
creation_in b = int_at entry_l 10 b

abbrev pub entry_from : List Value → Registration
entry_from vs =
    record {
      name = record { bytes = run_of (get_or vs 1 (int 0)); len = int_of (get_or vs 0 (int 0)) };
      extra = record { bytes = run_of (get_or vs 3 (int 0)); len = int_of (get_or vs 2 (int 0)) };
      kind = int_of (get_or vs 4 (int 0));
      protocol = int_of (get_or vs 5 (int 0));
      port = int_of (get_or vs 6 (int 0));
      highest = int_of (get_or vs 7 (int 0));
      lowest = int_of (get_or vs 8 (int 0));
      connection = int_of (get_or vs 9 (int 0));
      creation = int_of (get_or vs 10 (int 0));
    }

unfoldable pub entry_by : List ℕ → Registration
entry_by c = entry_from (decode entry_l c)

unfoldable pub registry_of : List ℕ → Registry
registry_of b = record { port = int_at head_l 0 b; next = int_at head_l 1 b; registrations = table entry_by entry_size places head_size b }

-- its records, each as the bytes that it is
abbrev pub records_in : List ℕ → List (List ℕ)
records_in b = first_chunks entry_size places (drop head_size b)

-- and the other way: the bytes of a registry
abbrev pub state_bytes : Registry → List ℕ
state_bytes r = encode head_l (int r.port ∷ int r.next ∷ []) ++ table_bytes entry_bytes r.registrations

-- ---- what a call does with them

-- the call comes to this outcome: it tells its answer, leaves its registry in the state, and writes its bytes at the front of the output
pub record Does (o : Outcome) (told : Result ℕ Refusal) (state out out' : List ℕ) : Type 0 where
  pub answer : told ≡ o.answer
  pub registry : registry_of state ≡ o.registry
  pub output : out' ≡ written o.bytes out

-- where making refuses, nothing is made
abbrev pub if_made : Result Unit Refusal → Registry → Registry → Registry
if_made (Ok _) made kept = made
if_made (Err _) made kept = kept

pub record Makes (m : Made) (told : Result Unit Refusal) (state state' : List ℕ) : Type 0 where
  pub answer : told ≡ m.making
  pub registry : registry_of state' ≡ if_made told m.registry (registry_of state)

pub record Closes (c : Closed) (told : Bool) (state : List ℕ) : Type 0 where
  pub answer : told ≡ c.freed
  pub registry : registry_of state ≡ c.registry

-- ---- parts of a registry exchanged

-- a registry with this registration at an index
abbrev pub placed : Registry → ℕ → Registration → Registry
placed r i p = record { port = r.port; next = r.next; registrations = set r.registrations i p }

-- a registry with another port and next creation
abbrev pub headed : ℕ → ℕ → Registry → Registry
headed p n r = record { port = p; next = n; registrations = r.registrations }

-- ---- look-up: an index below 64, or none

abbrev pub found : ℕ → Option ℕ
found n = cond (ltb n places) (Some n) None

-- by name: what is seen first of a place, the length of its name and its last byte

abbrev pub last_of : List ℕ → ℕ
last_of l = get_or l (length l - 1) 0

abbrev pub is_like : (n last : ℕ) → Registration → Bool
is_like n last p = eqb (length (name_bytes p.name)) n && eqb (last_of (name_bytes p.name)) last
