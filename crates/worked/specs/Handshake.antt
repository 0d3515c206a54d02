-- Handshakes of two real nodes, byte for byte (Erlang/OTP 25; hs_01 and hs_04 in rust/tests/captures): b@127.0.0.1 calls a@127.0.0.1. An endpoint with
-- the name, flags, creation and cookie of either, to which the challenges are lent that it drew, answers the other's frames as it did. Proved together
-- (Handshake.worked).
use Rattle.std.specs.Prelude.{ℕ, ◌≡◌, List, [], ◌∷◌, ◌++◌, map, length}
use Rattle.names.specs.Held.{name_of}
use Rattle.handshake_rules.specs.declared.refusal.Why.{Why}
use Rattle.handshake_rules.specs.declared.endpoint.Stage.TheVariants.{Connected}
use Rattle.handshake_rules.specs.declared.endpoint.Slot.{Slot}
use Rattle.handshake_rules.specs.State.{Endpoint}
use Rattle.handshake_rules.specs.Refusals.{only}
use Rattle.handshake_rules.specs.Endpoint.{slot_at}
use Rattle.handshake_rules.specs.Answers.{Numbers, unrefused, no_slot, tells, numbers_of}
use Rattle.handshake_rules.specs.Cookie.{Cookies, cookies}
use Rattle.handshake_rules.specs.DigestClaims.{monster}
use Rattle.handshake_rules.specs.Plans.{Done}
use Rattle.handshake_rules.specs.Calls.{room, new_of, start_of, arrive_of, message_of}

-- ---- hs_01, as it was seen: send_name, status, challenge, reply, acknowledgement

abbrev pub send_name : List ℕ
send_name =
    0x00 ∷ 0x1a ∷ 0x4e ∷ 0x00 ∷ 0x00 ∷ 0x00 ∷ 0x0d ∷ 0x07 ∷ 0xdf ∷ 0x7f ∷ 0xbd ∷ 0x6a ∷ 0xf9 ∷ 0xc2 ∷ 0xda ∷ 0x00 ∷ 0x0b ∷ 0x62 ∷ 0x40 ∷ 0x31 ∷ 0x32 ∷ 0x37 ∷ 0x2e ∷ 0x30 ∷ 0x2e ∷ 0x30 ∷ 0x2e ∷ 0x31 ∷ []

abbrev pub status : List ℕ
status = 0x00 ∷ 0x03 ∷ 0x73 ∷ 0x6f ∷ 0x6b ∷ []

abbrev pub challenge : List ℕ
challenge =
    0x00 ∷ 0x1e ∷ 0x4e ∷ 0x00 ∷ 0x00 ∷ 0x00 ∷ 0x0d ∷ 0x07 ∷ 0xdf ∷ 0x7f ∷ 0xbd ∷ 0x49 ∷ 0xa0 ∷ 0x47 ∷ 0x51 ∷ 0x6a ∷ 0xf9 ∷ 0xc2 ∷ 0xda ∷ 0x00 ∷ 0x0b ∷ 0x61 ∷ 0x40 ∷ 0x31 ∷ 0x32 ∷ 0x37 ∷ 0x2e ∷ 0x30 ∷ 0x2e ∷ 0x30 ∷ 0x2e ∷ 0x31 ∷ []

abbrev pub reply : List ℕ
reply =
    0x00 ∷ 0x15 ∷ 0x72 ∷ 0xac ∷ 0x60 ∷ 0xb7 ∷ 0x7d ∷ 0x2e ∷ 0x42 ∷ 0x3f ∷ 0x09 ∷ 0x5b ∷ 0x22 ∷ 0x96 ∷ 0x0a ∷ 0x42 ∷ 0x5f ∷ 0x54 ∷ 0xce ∷ 0xb4 ∷ 0x19 ∷ 0x8e ∷ 0x48 ∷ []

abbrev pub ack : List ℕ
ack = 0x00 ∷ 0x11 ∷ 0x61 ∷ 0xf8 ∷ 0x69 ∷ 0xdf ∷ 0xa7 ∷ 0x08 ∷ 0x8c ∷ 0xf2 ∷ 0xef ∷ 0x43 ∷ 0x1e ∷ 0x26 ∷ 0x1e ∷ 0xaf ∷ 0x85 ∷ 0x42 ∷ 0x62 ∷ []

-- ---- hs_04: the same two, but b has another cookie

abbrev pub other_name : List ℕ
other_name =
    0x00 ∷ 0x1a ∷ 0x4e ∷ 0x00 ∷ 0x00 ∷ 0x00 ∷ 0x0d ∷ 0x07 ∷ 0xdf ∷ 0x7f ∷ 0xbd ∷ 0x6a ∷ 0xf9 ∷ 0xc2 ∷ 0xdb ∷ 0x00 ∷ 0x0b ∷ 0x62 ∷ 0x40 ∷ 0x31 ∷ 0x32 ∷ 0x37 ∷ 0x2e ∷ 0x30 ∷ 0x2e ∷ 0x30 ∷ 0x2e ∷ 0x31 ∷ []

abbrev pub other_challenge : List ℕ
other_challenge =
    0x00 ∷ 0x1e ∷ 0x4e ∷ 0x00 ∷ 0x00 ∷ 0x00 ∷ 0x0d ∷ 0x07 ∷ 0xdf ∷ 0x7f ∷ 0xbd ∷ 0x30 ∷ 0xbb ∷ 0x62 ∷ 0x56 ∷ 0x6a ∷ 0xf9 ∷ 0xc2 ∷ 0xda ∷ 0x00 ∷ 0x0b ∷ 0x61 ∷ 0x40 ∷ 0x31 ∷ 0x32 ∷ 0x37 ∷ 0x2e ∷ 0x30 ∷ 0x2e ∷ 0x30 ∷ 0x2e ∷ 0x31 ∷ []

abbrev pub other_reply : List ℕ
other_reply =
    0x00 ∷ 0x15 ∷ 0x72 ∷ 0xd4 ∷ 0x5b ∷ 0x83 ∷ 0x93 ∷ 0x15 ∷ 0x7a ∷ 0x91 ∷ 0x61 ∷ 0xac ∷ 0xf8 ∷ 0x4c ∷ 0x58 ∷ 0xd5 ∷ 0x8e ∷ 0x3e ∷ 0xe5 ∷ 0xd3 ∷ 0x67 ∷ 0xa8 ∷ 0xbf ∷ []

-- ---- the two nodes as endpoints; their flags and creations are the same

abbrev pub a_name : List ℕ
a_name = 0x61 ∷ 0x40 ∷ 0x31 ∷ 0x32 ∷ 0x37 ∷ 0x2e ∷ 0x30 ∷ 0x2e ∷ 0x30 ∷ 0x2e ∷ 0x31 ∷ []

abbrev pub b_name : List ℕ
b_name = 0x62 ∷ 0x40 ∷ 0x31 ∷ 0x32 ∷ 0x37 ∷ 0x2e ∷ 0x30 ∷ 0x2e ∷ 0x30 ∷ 0x2e ∷ 0x31 ∷ []

abbrev pub flags : ℕ
flags = 0xd07df7fbd

abbrev pub creation : ℕ
creation = 1794753242

abbrev pub node : List ℕ → Endpoint
node n = (new_of n flags creation).endpoint

abbrev pub cookie : Cookies
cookie = cookies [] monster

-- a frame that comes to slot 0, with the challenge that the node drew
abbrev pub message : Endpoint → List ℕ → ℕ → Done
message g frame drawn = message_of cookie g 0 frame drawn room

abbrev pub after : Done → Endpoint
after d = d.told.endpoint

-- ---- b's calls in hs_01, a's, and a's in hs_04

abbrev pub b_starts : Done
b_starts = start_of (node b_name) a_name room

abbrev pub b_reads_status : Done
b_reads_status = message (after b_starts) status 0

abbrev pub b_reads_challenge : Done
b_reads_challenge = message (after b_reads_status) challenge 2892019581

abbrev pub b_reads_ack : Done
b_reads_ack = message (after b_reads_challenge) ack 0

abbrev pub a_reads_name : Done
a_reads_name = message (arrive_of (node a_name)).endpoint send_name 1235240785

abbrev pub a_reads_reply : Done
a_reads_reply = message (after a_reads_name) reply 0

abbrev pub a_reads_other_name : Done
a_reads_other_name = message (arrive_of (node a_name)).endpoint other_name 817586774

abbrev pub a_reads_other_reply : Done
a_reads_other_reply = message (after a_reads_other_name) other_reply 0

-- ---- the steps

-- what a call tells and writes
pub record Shown : Type 0 where
  pub numbers : Numbers
  pub bytes : List ℕ

abbrev pub shown : Done → Shown
shown d = record { numbers = numbers_of d.told.answer; bytes = d.bytes }

-- a call, and what it is to tell and write: the frames that the node sent, and the slot's stage by its number; or the refusal
pub record Step : Type 0 where
  pub call : Done
  pub seen : Shown

abbrev pub sends : Done → ℕ → List ℕ → Step
sends d stage frames = record { call = d; seen = record { numbers = tells unrefused 0 stage no_slot (length frames); bytes = frames } }

abbrev pub refuses : Done → Why → Step
refuses d why = record { call = d; seen = record { numbers = tells why 0 0 no_slot 0; bytes = [] } }

abbrev pub steps : List Step
steps =
    -- b calls (start tells no stage), reads the status (5: awaits a challenge), the challenge (6: awaits an acknowledgement) and the acknowledgement
    -- (7: connected)
    sends b_starts 0 send_name
    ∷ sends b_reads_status 5 []
    ∷ sends b_reads_challenge 6 reply
    ∷ sends b_reads_ack 7 []
    -- a reads the name (3: awaits a reply) and the reply
    ∷ sends a_reads_name 3 (status ++ challenge)
    ∷ sends a_reads_reply 7 ack
    -- in hs_04 it closed on the reply
    ∷ sends a_reads_other_name 3 (status ++ other_challenge)
    ∷ refuses a_reads_other_reply (only 15)
    ∷ []

-- what either holds of the other in the end, with the challenge that it drew
abbrev pub holds : List ℕ → ℕ → Slot
holds n drawn = record { stage = Connected; name = name_of n; flags = flags; creation = creation; challenge = drawn }

pub record RealHandshake : Type 0 where
  pub each : map (λ s. shown s.call) steps ≡ map (λ s. s.seen) steps
  pub b_holds : slot_at (after b_reads_ack) 0 ≡ holds a_name 2892019581
  pub a_holds : slot_at (after a_reads_reply) 0 ≡ holds b_name 1235240785
