-- An endpoint as it lies in bytes that a host lends: its own name, flags and creation, and behind them a record for each slot. Whoever reads or writes
-- them goes by these layouts; the offsets and widths of the code are theirs.
use Rattle.std.specs.Prelude.{ℕ, ◌+◌, ◌*◌, ◌≡◌, List, [], ◌∷◌, ◌++◌, length, get_or, Result, Ok, Err}
use Rattle.wire.specs.Layout.{number, bytes, Layout, Value, int, run, encode, decode, width, int_of, run_of, int_at, run_at}
use Rattle.wire.specs.Output.{written}
use Rattle.wire.specs.Table.{table, table_bytes}
use Rattle.names.specs.declared.held.Name.{Name}
use Rattle.handshake_rules.specs.declared.endpoint.Slot.{Slot}
use Rattle.handshake_rules.specs.declared.endpoint.Answer.{Answer}
use Rattle.handshake_rules.specs.declared.refusal.Refusal.{Refusal}
use Rattle.handshake_rules.specs.Refusals.{Check}
use Rattle.handshake_rules.specs.State.{Endpoint, Told, Made}
use Rattle.handshake_rules.specs.Endpoint.{stage_number, stage_of}
use Rattle.handshake_rules.specs.Plans.{Done, Plan, concluded}

-- ---- layouts

-- the length of our own name, the name, our flags and creation
abbrev pub own_l : Layout
own_l = number 1 ∷ bytes 255 ∷ number 8 ∷ number 4 ∷ []

abbrev pub own_values : Name → ℕ → ℕ → List Value
own_values n f c = int n.len ∷ run n.bytes ∷ int f ∷ int c ∷ []

-- a slot's numbers: flags, creation, challenge, stage, the length of the peer's name; and behind them the name
abbrev pub numbers_l : Layout
numbers_l = number 8 ∷ number 4 ∷ number 4 ∷ number 1 ∷ number 1 ∷ []

abbrev pub slot_l : Layout
slot_l = number 8 ∷ number 4 ∷ number 4 ∷ number 1 ∷ number 1 ∷ bytes 255 ∷ []

abbrev pub slot_values : Slot → List Value
slot_values s = int s.flags ∷ int s.creation ∷ int s.challenge ∷ int (stage_number s.stage) ∷ int s.name.len ∷ run s.name.bytes ∷ []

abbrev pub slot_bytes : Slot → List ℕ
slot_bytes s = encode slot_l (slot_values s)

-- ---- sizes, and where a slot's record begins

abbrev pub own_size : ℕ
own_size = width own_l

abbrev pub slot_size : ℕ
slot_size = width slot_l

abbrev pub state_size : ℕ
state_size = own_size + 32 * slot_size

abbrev pub record_at : ℕ → ℕ
record_at i = own_size + i * slot_size

-- these bytes are as many as a state has
abbrev pub Whole : List ℕ → Type 0
Whole b = length b ≡ state_size

-- ---- what the bytes hold

abbrev pub slot_from : List Value → Slot
slot_from vs =
    record {
      stage = stage_of (int_of (get_or vs 3 (int 0)));
      name = record { bytes = run_of (get_or vs 5 (int 0)); len = int_of (get_or vs 4 (int 0)) };
      flags = int_of (get_or vs 0 (int 0));
      creation = int_of (get_or vs 1 (int 0));
      challenge = int_of (get_or vs 2 (int 0));
    }

unfoldable pub slot_by : List ℕ → Slot
slot_by c = slot_from (decode slot_l c)

unfoldable pub slots_in : List ℕ → List Slot
slots_in b = table slot_by slot_size 32 own_size b

unfoldable pub endpoint_of : List ℕ → Endpoint
endpoint_of b =
    record {
      name = record { bytes = run_at own_l 1 b; len = int_at own_l 0 b };
      flags = int_at own_l 2 b;
      creation = int_at own_l 3 b;
      slots = slots_in b;
    }

-- and the other way: the bytes of an endpoint
abbrev pub state_bytes : Endpoint → List ℕ
state_bytes g = encode own_l (own_values g.name g.flags g.creation) ++ table_bytes slot_bytes g.slots

-- ---- what a call does to the bytes

-- what a call tells, with the endpoint that it leaves
abbrev pub told_in : Result Answer Refusal → List ℕ → Told
told_in a after = record { answer = a; endpoint = endpoint_of after }

-- a call that is lent no output tells this
abbrev pub Tells : Told → Result Answer Refusal → List ℕ → Type 0
Tells t a after = told_in a after ≡ t

-- a call that comes to d: its answer and the state after it are d's, and the output after it is the one before with d's bytes from the first on
abbrev pub Does : Done → Result Answer Refusal → List ℕ → List ℕ → List ℕ → Type 0
Does d a after out left = (Tells d.told a after) × (left ≡ written d.bytes out)

-- a message on slot s whose plan is concluded with this cookie; and one whose plan needs none, so that it is concluded alike with every cookie
abbrev pub Concludes : List ℕ → ℕ → (Endpoint → Plan) → List ℕ → Result Answer Refusal → List ℕ → List ℕ → List ℕ → Type 0
Concludes k s plan before a after out left = Does (concluded k k (endpoint_of before) s (plan (endpoint_of before))) a after out left

abbrev pub ConcludesAlike : ℕ → (Endpoint → Plan) → List ℕ → Result Answer Refusal → List ℕ → List ℕ → List ℕ → Type 0
ConcludesAlike s plan before a after out left =
    ((k : List ℕ) → Tells (concluded k k (endpoint_of before) s (plan (endpoint_of before))).told a after)
    × ((k : List ℕ) → left ≡ written (concluded k k (endpoint_of before) s (plan (endpoint_of before))).bytes out)

-- where making refuses, the bytes are not touched
abbrev pub if_made : Check → Endpoint → Endpoint → Endpoint
if_made (Ok _) made kept = made
if_made (Err r) made kept = kept

abbrev pub Makes : Made → Check → List ℕ → List ℕ → Type 0
Makes m a before after = (a ≡ m.making) × (endpoint_of after ≡ if_made a m.endpoint (endpoint_of before))

-- an endpoint with another name, flags and creation of its own
abbrev pub owned_by : Name → ℕ → ℕ → Endpoint → Endpoint
owned_by n f c g = record { name = n; flags = f; creation = c; slots = g.slots }
