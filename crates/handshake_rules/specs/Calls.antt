-- The calls: making, start, arrive, close and message. Each gives its answer, the endpoint after it and the bytes that it writes.
use Rattle.std.specs.Prelude.{ℕ, ◌≤◌, Bool, true, false, not, ◌||◌, List, [], ◌∷◌, ◌++◌, length, leb, ltb, eqb, Ok, Err}
use Rattle.wire.specs.Run.{same_bytes}
use Rattle.wire.specs.Frame.{is_frame, body}
use Rattle.names.specs.Held.{name_of, name_bytes}
use Rattle.names.specs.Full.{full_name}
use Rattle.handshake_rules.specs.declared.refusal.Refusal.{Refusal}
use Rattle.handshake_rules.specs.declared.refusal.Refusal.TheVariants.{OutputTooShort, SlotNotTaken, NotAFrame, UnknownTag, BadName, AlreadyConnected, BadCookie, PeerTaken, NoFreeSlot}
use Rattle.handshake_rules.specs.declared.endpoint.Stage.{Stage}
use Rattle.handshake_rules.specs.declared.endpoint.Stage.TheVariants.{Free, AwaitsName, AwaitsAlive, AwaitsReply, AwaitsStatus, AwaitsChallenge, AwaitsAck, Connected}
use Rattle.handshake_rules.specs.declared.endpoint.Slot.{Slot}
use Rattle.handshake_rules.specs.State.{Endpoint}
use Rattle.handshake_rules.specs.declared.endpoint.Sought.TheVariants.{AnyTaken}
use Rattle.handshake_rules.specs.State.{Made}
use Rattle.handshake_rules.specs.declared.endpoint.Answer.TheVariants.{Begun, Arrived, Closed}
use Rattle.handshake_rules.specs.State.{Told}
use Rattle.handshake_rules.specs.Refusals.{Test, ◌given-if◌, checked, unless}
use Rattle.handshake_rules.specs.Flags.{flag_test}
use Rattle.handshake_rules.specs.Endpoint.{fresh, idle, connected, kind, slot_at, put, freed, vacant, lowest, lowest_free, is_slot}
use Rattle.handshake_rules.specs.Messages.{name_message}
use Rattle.handshake_rules.specs.Forms.{flag_tests, form_tests}
use Rattle.handshake_rules.specs.Cookie.{Cookies, checking, writing, fit}
use Rattle.handshake_rules.specs.Plans.{Done, Plan, fails, Expected, concluded}
use Rattle.handshake_rules.specs.Accepting.{expect_name, expect_alive, expect_reply}
use Rattle.handshake_rules.specs.Connecting.{expect_status, expect_challenge, expect_ack}

-- ---- making

-- "Making a gate refuses a bad name with 6, then bad flags with 9."
abbrev pub new_tests : List ℕ → ℕ → List Test
new_tests n f = BadName given-if not (full_name n) ∷ flag_tests (flag_test f)

-- beside a refusal stands an endpoint that has no name and no flags
abbrev pub not_made : Refusal → Made
not_made r = record { making = Err r; endpoint = fresh [] 0 0 }

unfoldable pub new_of : List ℕ → ℕ → ℕ → Made
new_of n f c = unless not_made (record { making = Ok tt; endpoint = fresh n f c }) (checked (new_tests n f))

-- ---- start, arrive, close

-- "Start and message need 300 output bytes"
abbrev pub room : ℕ
room = 300

-- a lent output that is long enough
abbrev pub Roomy : List ℕ → Type 0
Roomy out = room ≤ length out

-- a refusal that keeps everything
abbrev pub kept : Endpoint → Refusal → Told
kept g r = record { answer = Err r; endpoint = g }

abbrev pub opened : Stage → List ℕ → Slot
opened st n = record { stage = st; name = name_of n; flags = 0; creation = 0; challenge = 0 }

-- "Order, start: 1, 6, 12, 13." n: the name; size: how long the lent output is
abbrev pub start_tests : Endpoint → List ℕ → ℕ → List Test
start_tests g n size =
    OutputTooShort given-if ltb size room ∷ BadName given-if not (full_name n)
    ∷ PeerTaken given-if (same_bytes (name_bytes g.name) n || is_slot (lowest AnyTaken n g))
    ∷ NoFreeSlot given-if not (is_slot (lowest_free g)) ∷ []

-- our name message
abbrev pub name_out : Endpoint → List ℕ
name_out g = name_message g.flags g.creation (name_bytes g.name)

-- "takes the lowest free slot, writes the name message, awaits status"
abbrev pub begun : Endpoint → List ℕ → Done
begun g n =
    record {
      told = record {
        answer = Ok (Begun (lowest_free g) (length (name_out g)));
        endpoint = put g (lowest_free g) (opened AwaitsStatus n);
      };
      bytes = name_out g;
    }

abbrev pub silent : Told → Done
silent t = record { told = t; bytes = [] }

unfoldable pub start_of : Endpoint → List ℕ → ℕ → Done
start_of g n size = unless (λ r. silent (kept g r)) (begun g n) (checked (start_tests g n size))

-- "takes the lowest free slot, awaits name; needs no output"
abbrev pub arrive_tests : Endpoint → List Test
arrive_tests g = NoFreeSlot given-if not (is_slot (lowest_free g)) ∷ []

abbrev pub arrived : Endpoint → Told
arrived g = record { answer = Ok (Arrived (lowest_free g)); endpoint = put g (lowest_free g) (opened AwaitsName []) }

unfoldable pub arrive_of : Endpoint → Told
arrive_of g = unless (kept g) (arrived g) (checked (arrive_tests g))

-- "frees any taken slot; needs no output"
abbrev pub close_tests : Endpoint → ℕ → List Test
close_tests g s = SlotNotTaken given-if vacant g s ∷ []

unfoldable pub close_of : Endpoint → ℕ → Told
close_of g s = unless (kept g) (record { answer = Ok Closed; endpoint = freed g s }) (checked (close_tests g s))

-- ---- message

-- no message is served on a free or a connected slot
abbrev pub nothing : Expected
nothing = record { form = record { served = false; fits = true; named = true; flags = Ok tt }; rule = fails UnknownTag }

-- g: the endpoint; sl: the slot's record; c: the challenge lent to this call; b: the body
unfoldable pub expected : Endpoint → Slot → ℕ → List ℕ → Stage → Expected
expected g sl c b Free = nothing
expected g sl c b AwaitsName = expect_name g c b
expected g sl c b AwaitsAlive = expect_alive g sl c b
expected g sl c b AwaitsReply = expect_reply g sl b
expected g sl c b AwaitsStatus = expect_status sl b
expected g sl c b AwaitsChallenge = expect_challenge sl c b
expected g sl c b AwaitsAck = expect_ack sl b
expected g sl c b Connected = nothing

-- what is expected of a message f on slot s, to which the challenge c is lent
abbrev pub awaited : Endpoint → ℕ → List ℕ → ℕ → Expected
awaited g s f c = expected g (slot_at g s) c (body f) (slot_at g s).stage

-- "Order, message: 1, 2, 10, 11, 3, 4, 5, 6, 9, then the stage's rule." st: the slot's stage; size: how long the lent output is; ok: whether the
-- needed cookies are allowed
abbrev pub early_tests : ℕ → Stage → ℕ → Bool → List Test
early_tests s st size ok =
    OutputTooShort given-if ltb size room ∷ SlotNotTaken given-if (leb 32 s || eqb (kind st) idle)
    ∷ AlreadyConnected given-if eqb (kind st) connected ∷ BadCookie given-if not ok ∷ []

abbrev pub frame_tests : List ℕ → List Test
frame_tests f = NotAFrame given-if not (is_frame f) ∷ []

abbrev pub message_tests : Endpoint → ℕ → ℕ → Bool → List ℕ → Expected → List Test
message_tests g s size ok f e = early_tests s (slot_at g s).stage size ok ++ (frame_tests f ++ form_tests e.form)

unfoldable pub plan : Endpoint → ℕ → List ℕ → ℕ → ℕ → Bool → Plan
plan g s f c size ok = unless fails (awaited g s f c).rule (checked (message_tests g s size ok f (awaited g s f c)))

-- what a message comes to that is not refused with 1, 2, 10 or 11, on a slot of the stage st
unfoldable pub on_frame : List ℕ → List ℕ → Endpoint → ℕ → Stage → List ℕ → ℕ → Done
on_frame check write g s st f c =
    concluded check write g s
    (unless fails (expected g (slot_at g s) c (body f) st).rule
    (checked (frame_tests f ++ form_tests (expected g (slot_at g s) c (body f) st).form)))

unfoldable pub message_of : Cookies → Endpoint → ℕ → List ℕ → ℕ → ℕ → Done
message_of k g s f c size =
    concluded (checking k) (writing k) g s (plan g s f c size (fit (slot_at g s).stage (checking k) (writing k)))
