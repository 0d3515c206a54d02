-- What an endpoint (01's gate) holds, and how its slots are looked up. The types are the code's own.
use Rattle.std.specs.Prelude.{ℕ, Bool, true, false, ◌&&◌, ◌||◌, not, cond, List, [], get_or, set, replicate, leb, ltb, eqb, None, Some}
use Rattle.wire.specs.Run.{same_bytes}
use Rattle.wire.specs.Lookup.{first_at}
use Rattle.names.specs.declared.held.Name.{Name}
use Rattle.names.specs.Held.{name_of, name_bytes}
use Rattle.handshake_rules.specs.declared.endpoint.Stage.{Stage}
use Rattle.handshake_rules.specs.declared.endpoint.Stage.TheVariants.{Free, AwaitsName, AwaitsAlive, AwaitsReply, AwaitsStatus, AwaitsChallenge, AwaitsAck, Connected}
use Rattle.handshake_rules.specs.declared.endpoint.Slot.{Slot}
use Rattle.handshake_rules.specs.State.{Endpoint, Freed}
use Rattle.handshake_rules.specs.declared.endpoint.Sought.{Sought}
use Rattle.handshake_rules.specs.declared.endpoint.Sought.TheVariants.{AnyFree, AcceptedFrom, StartedTo, ConnectedTo, AnyTaken}

-- "all of a free slot is zero or empty"
abbrev pub free_slot : Slot
free_slot = record { stage = Free; name = name_of []; flags = 0; creation = 0; challenge = 0 }

-- ---- a stage's number, and the stage of a number: what is no stage's number is free

abbrev pub stage_number : Stage → ℕ
stage_number Free = 0
stage_number AwaitsName = 1
stage_number AwaitsAlive = 2
stage_number AwaitsReply = 3
stage_number AwaitsStatus = 4
stage_number AwaitsChallenge = 5
stage_number AwaitsAck = 6
stage_number Connected = 7

unfoldable pub stage_of : ℕ → Stage
stage_of n =
    cond (eqb n 1) AwaitsName
    (cond (eqb n 2) AwaitsAlive
    (cond (eqb n 3) AwaitsReply
    (cond (eqb n 4) AwaitsStatus (cond (eqb n 5) AwaitsChallenge (cond (eqb n 6) AwaitsAck (cond (eqb n 7) Connected Free))))))

-- an endpoint with all slots free
abbrev pub unused : Name → ℕ → ℕ → Endpoint
unused n f c = record { name = n; flags = f; creation = c; slots = replicate 32 free_slot }

abbrev pub fresh : List ℕ → ℕ → ℕ → Endpoint
fresh n f c = unused (name_of n) f c

-- ---- what a slot is: free, an accepted one in progress, a started one in progress, or connected

abbrev pub idle : ℕ
idle = 0

abbrev pub accepted : ℕ
accepted = 1

abbrev pub started : ℕ
started = 2

abbrev pub connected : ℕ
connected = 3

abbrev pub kind : Stage → ℕ
kind Free = 0
kind AwaitsName = 1
kind AwaitsAlive = 1
kind AwaitsReply = 1
kind AwaitsStatus = 2
kind AwaitsChallenge = 2
kind AwaitsAck = 2
kind Connected = 3

abbrev pub is_a : ℕ → Slot → Bool
is_a k sl = eqb (kind sl.stage) k

-- ---- slots by their number

-- there are 32 slots; past them nothing is taken
abbrev pub slot_at : Endpoint → ℕ → Slot
slot_at g s = get_or g.slots s free_slot

abbrev pub put : Endpoint → ℕ → Slot → Endpoint
put g s sl = record { name = g.name; flags = g.flags; creation = g.creation; slots = set g.slots s sl }

abbrev pub freed : Endpoint → ℕ → Endpoint
freed g s = put g s free_slot

abbrev pub free_other : Endpoint → Freed → Endpoint
free_other g None = g
free_other g (Some s) = freed g s

-- "slot number ≥ 32, or slot free"
abbrev pub vacant : Endpoint → ℕ → Bool
vacant g s = leb 32 s || eqb (kind (slot_at g s).stage) idle

-- ---- look-up

abbrev pub of_kind : Sought → ℕ → Bool
of_kind AnyFree k = eqb k idle
of_kind AcceptedFrom k = eqb k accepted
of_kind StartedTo k = eqb k started
of_kind ConnectedTo k = eqb k connected
of_kind AnyTaken k = not (eqb k idle)

-- a free slot has no peer; any other is sought by its peer's name
abbrev pub named : Sought → List ℕ → Slot → Bool
named AnyFree n sl = true
named AcceptedFrom n sl = same_bytes (name_bytes sl.name) n
named StartedTo n sl = same_bytes (name_bytes sl.name) n
named ConnectedTo n sl = same_bytes (name_bytes sl.name) n
named AnyTaken n sl = same_bytes (name_bytes sl.name) n

abbrev pub sought : Sought → List ℕ → Slot → Bool
sought w n sl = of_kind w (kind sl.stage) && named w n sl

-- the lowest slot that is sought, or 32
abbrev pub lowest : Sought → List ℕ → Endpoint → ℕ
lowest w n g = first_at (sought w n) g.slots

abbrev pub is_slot : ℕ → Bool
is_slot i = ltb i 32

abbrev pub lowest_free : Endpoint → ℕ
lowest_free g = lowest AnyFree [] g

-- another slot that is freed, if there is one at that number
abbrev pub freed_at : ℕ → Bool → Freed
freed_at i true = Some i
freed_at i false = None
