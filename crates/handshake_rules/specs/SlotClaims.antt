-- What is proved of slots: by what a slot becomes connected and how long it stays so, what a slot holds, and what a call makes of it. Each claim names
-- the theorem in proofs/ that is its proof.
use Rattle.std.specs.Prelude.{ℕ, ◌<◌, ◌≡◌, ◌⊎◌, true, List, [], ◌∷◌, ◌++◌, length, eqb, Some, Ok, Err, Result}
use Rattle.wire.specs.Frame.{body}
use Rattle.names.specs.Held.{name_of, name_bytes}
use Rattle.names.specs.Full.{full_name}
use Rattle.handshake_rules.specs.declared.refusal.Refusal.{Refusal}
use Rattle.handshake_rules.specs.declared.endpoint.Stage.{Stage}
use Rattle.handshake_rules.specs.declared.endpoint.Stage.TheVariants.{Free, AwaitsName, AwaitsAlive, AwaitsReply, AwaitsStatus, AwaitsChallenge, AwaitsAck, Connected}
use Rattle.handshake_rules.specs.declared.endpoint.Slot.{Slot}
use Rattle.handshake_rules.specs.State.{Endpoint, Freed}
use Rattle.handshake_rules.specs.declared.endpoint.Answer.{Answer}
use Rattle.handshake_rules.specs.declared.endpoint.Answer.TheVariants.{Answered}
use Rattle.handshake_rules.specs.Refusals.{free, message_fate}
use Rattle.handshake_rules.specs.Endpoint.{free_slot, stage_number, kind, idle, slot_at}
use Rattle.handshake_rules.specs.Answers.{ends_slot}
use Rattle.handshake_rules.specs.Messages.{name_name, name_flags, name_creation, status_message, reply_message, reply_digest, ack_digest}
use Rattle.handshake_rules.specs.Cookie.{Cookies, checking, digest_of}
use Rattle.handshake_rules.specs.Plans.{sent, moved, challenge_of}
use Rattle.handshake_rules.specs.Accepting.{heard}
use Rattle.handshake_rules.specs.Connecting.{challenged}
use Rattle.handshake_rules.specs.Calls.{opened}
use Rattle.handshake_rules.specs.Runs.{Call, Start, Arrive, Close, Message, step, next, Asked, ends, MadeOf}

-- ---- connected only by the slot's own digest

-- d is the digest that a message with body b carries on the slot sl
pub data Carries (sl : Slot) (b : List ℕ) (d : List ℕ) : Type 0 where
  by_reply : sl.stage ≡ AwaitsReply → d ≡ reply_digest b → Carries sl b d
  by_ack : sl.stage ≡ AwaitsAck → d ≡ ack_digest b → Carries sl b d

-- what a call shows: it is a message on slot i, and carries the digest of the challenge that slot i holds
unfoldable pub Shown : Cookies → Endpoint → ℕ → Call → Type 0
Shown k g i (Start n out) = ⊥
Shown k g i Arrive = ⊥
Shown k g i (Close s) = ⊥
Shown k g i (Message s f c out) = (s ≡ i) × Carries (slot_at g i) (body f) (digest_of (slot_at g i).challenge (checking k))

-- a call connects slot i: it shows the slot's digest and is told so, and of the slot nothing changes but its stage
pub record Connects (k : Cookies) (g : Endpoint) (i : ℕ) (c : Call) : Type 0 where
  pub shown : Shown k g i c
  pub freed : Freed
  pub count : ℕ
  pub answer : (step g c k).told.answer ≡ Ok (Answered Connected freed count)
  pub slot : slot_at (next g c k) i ≡ moved (slot_at g i) Connected

-- a slot that is connected after a call was so before, or the call connects it (Connected.only_by_digest)
abbrev pub OnlyByDigest : Type 0
OnlyByDigest =
    (i : ℕ) (k : Cookies) (g : Endpoint) (c : Call) → (slot_at (next g c k) i).stage ≡ Connected
    → ((slot_at g i).stage ≡ Connected) ⊎ Connects k g i c

-- slot i is x in g, and after each call of a run
unfoldable pub Stays : ℕ → Slot → Endpoint → List Asked → Type 0
Stays i x g [] = slot_at g i ≡ x
Stays i x g (a ∷ rest) = (slot_at g i ≡ x) × Stays i x (next g a.call a.cookies) rest

-- a call of the run connects slot i, and from there on it is x
unfoldable pub ConnectedIn : ℕ → Slot → Endpoint → List Asked → Type 0
ConnectedIn i x g [] = ⊥
ConnectedIn i x g (a ∷ rest) =
    (Connects a.cookies g i a.call × Stays i x (next g a.call a.cookies) rest)
    ⊎ ConnectedIn i x (next g a.call a.cookies) rest

-- Of a slot that is connected at the end of a run from a made endpoint there is the call that connected it: it showed the digest of the slot's
-- challenge on the endpoint as it was then, and since then, through every later call, the slot is what it is at the end (Connected.connected_by_digest)
abbrev pub ConnectedByDigest : Type 0
ConnectedByDigest =
    (i : ℕ) (n : List ℕ) (f c : ℕ) (g : Endpoint) → MadeOf n f c g → (l : List Asked) → (slot_at (ends g l) i).stage ≡ Connected
    → ConnectedIn i (slot_at (ends g l) i) g l

-- ---- the challenge that is compared is the one last sent on the slot

-- a call is a message on slot i
unfoldable pub On : ℕ → Call → Type 0
On i (Start n out) = ⊥
On i Arrive = ⊥
On i (Close s) = ⊥
On i (Message s f c out) = s ≡ i

-- the challenge lent to a call
unfoldable pub lent_challenge : Call → ℕ
lent_challenge (Start n out) = 0
lent_challenge Arrive = 0
lent_challenge (Close s) = 0
lent_challenge (Message s f c out) = c

-- the bytes end in the endpoint's challenge message with challenge h; before it stands a status message or nothing
pub record InChallenge (g : Endpoint) (bytes : List ℕ) (h : ℕ) : Type 0 where
  pub before : List ℕ
  pub status : (before ≡ []) ⊎ ((word : List ℕ) × (before ≡ status_message word))
  pub is : bytes ≡ before ++ challenge_of g h

-- the bytes are a reply with challenge h
pub record InReply (bytes : List ℕ) (h : ℕ) : Type 0 where
  pub digest : List ℕ
  pub sixteen : length digest ≡ 16
  pub is : bytes ≡ reply_message h digest

-- a slot that awaits a reply after a call is what it was, or the call is a message on it and wrote the challenge message with the challenge that the
-- slot then holds, which is the one lent to it (Sent.sent_challenge)
abbrev pub SentChallenge : Type 0
SentChallenge =
    (k : Cookies) (g : Endpoint) (c : Call) (i : ℕ) → (slot_at (next g c k) i).stage ≡ AwaitsReply
    → (slot_at (next g c k) i ≡ slot_at g i)
    ⊎ (On i c × ((slot_at (next g c k) i).challenge ≡ lent_challenge c) × InChallenge g (step g c k).bytes (slot_at (next g c k) i).challenge)

-- and one that awaits an acknowledgement: the reply (Sent.sent_reply)
abbrev pub SentReply : Type 0
SentReply =
    (k : Cookies) (g : Endpoint) (c : Call) (i : ℕ) → (slot_at (next g c k) i).stage ≡ AwaitsAck
    → (slot_at (next g c k) i ≡ slot_at g i)
    ⊎ (On i c × ((slot_at (next g c k) i).challenge ≡ lent_challenge c) × InReply (step g c k).bytes (slot_at (next g c k) i).challenge)

-- a call sends the challenge h on slot i: told by the call and its output alone
unfoldable pub Sends : Cookies → Endpoint → ℕ → Call → ℕ → Type 0
Sends k g i c h = On i c × (InChallenge g (step g c k).bytes h ⊎ InReply (step g c k).bytes h)

-- no call of a run sends a challenge on slot i
unfoldable pub NoneSent : ℕ → Endpoint → List Asked → Type 0
NoneSent i g [] = Unit
NoneSent i g (a ∷ rest) = ((h : ℕ) → Sends a.cookies g i a.call h → ⊥) × NoneSent i (next g a.call a.cookies) rest

-- a call of the run sends h on slot i, and no later one sends a challenge on it
unfoldable pub LastSentIn : ℕ → ℕ → Endpoint → List Asked → Type 0
LastSentIn i h g [] = ⊥
LastSentIn i h g (a ∷ rest) =
    (Sends a.cookies g i a.call h × NoneSent i (next g a.call a.cookies) rest) ⊎ LastSentIn i h (next g a.call a.cookies) rest

-- "the challenge last sent on this slot" is the one that a slot holds where a digest is checked: after every run from a made endpoint (Sent.last_sent)
abbrev pub LastSent : Type 0
LastSent =
    (n : List ℕ) (f c : ℕ) (g : Endpoint) → MadeOf n f c g → (l : List Asked) (i : ℕ)
    → ((slot_at (ends g l) i).stage ≡ AwaitsReply) ⊎ ((slot_at (ends g l) i).stage ≡ AwaitsAck)
    → LastSentIn i (slot_at (ends g l) i).challenge g l

-- ---- what slots hold, in every endpoint that making and calls give

abbrev pub peer : Slot → List ℕ
peer sl = name_bytes sl.name

-- "whatever is not yet recorded, and all of a free slot, is zero or empty" (Recorded.recorded)
abbrev pub Unrecorded : Stage → Slot → Type 0
Unrecorded Free sl = sl ≡ free_slot
Unrecorded AwaitsName sl = sl ≡ opened AwaitsName []
Unrecorded AwaitsAlive sl = sl.challenge ≡ 0
Unrecorded AwaitsReply sl = Unit
Unrecorded AwaitsStatus sl = (sl.flags ≡ 0) × (sl.creation ≡ 0) × (sl.challenge ≡ 0)
Unrecorded AwaitsChallenge sl = (sl.flags ≡ 0) × (sl.creation ≡ 0) × (sl.challenge ≡ 0)
Unrecorded AwaitsAck sl = Unit
Unrecorded Connected sl = Unit

-- a peer that is recorded is a full name
abbrev pub FullPeer : Stage → Slot → Type 0
FullPeer Free sl = Unit
FullPeer AwaitsName sl = Unit
FullPeer AwaitsAlive sl = full_name (peer sl) ≡ true
FullPeer AwaitsReply sl = full_name (peer sl) ≡ true
FullPeer AwaitsStatus sl = full_name (peer sl) ≡ true
FullPeer AwaitsChallenge sl = full_name (peer sl) ≡ true
FullPeer AwaitsAck sl = full_name (peer sl) ≡ true
FullPeer Connected sl = full_name (peer sl) ≡ true

-- and behind the name's bytes all is zero: it is held as name_of holds it
pub record Holds (sl : Slot) : Type 0 where
  pub unrecorded : Unrecorded sl.stage sl
  pub full : FullPeer sl.stage sl
  pub zero : sl.name ≡ name_of (peer sl)

abbrev pub Recorded : Type 0
Recorded = (n : List ℕ) (f c : ℕ) (g : Endpoint) → MadeOf n f c g → (l : List Asked) (i : ℕ) → Holds (slot_at (ends g l) i)

-- Two slots that have one peer are one connected and one accepted in progress; a slot whose peer is not recorded has none. So at most one slot of
-- each kind has a given peer, and "the" slot of which a rule speaks is the one that the search from below finds (Peers.peers_apart)
abbrev pub kind_of : Slot → ℕ
kind_of sl = kind sl.stage

unfoldable pub Fine : Slot → Slot → Type 0
Fine x y = peer x ≡ peer y → (peer x ≡ []) ⊎ (((kind_of x ≡ 3) × (kind_of y ≡ 1)) ⊎ ((kind_of x ≡ 1) × (kind_of y ≡ 3)))

abbrev pub PeersApart : Type 0
PeersApart =
    (n : List ℕ) (f c : ℕ) (g : Endpoint) → MadeOf n f c g → (l : List Asked) (i j : ℕ) → (i ≡ j → ⊥)
    → Fine (slot_at (ends g l) i) (slot_at (ends g l) j)

-- "So an unproved caller never ends a proved connection": a connected slot stays as it is, unless it is closed, or a right digest is shown on another
-- slot of the same peer; it is free then (Lasting.lasting)
unfoldable pub EndedBy : Cookies → Endpoint → ℕ → Call → Type 0
EndedBy k g i (Start n out) = ⊥
EndedBy k g i Arrive = ⊥
EndedBy k g i (Close s) = s ≡ i
EndedBy k g i (Message s f c out) = Shown k g s (Message s f c out) × (peer (slot_at g s) ≡ peer (slot_at g i)) × (s ≡ i → ⊥)

abbrev pub Lasting : Type 0
Lasting =
    (n : List ℕ) (f c : ℕ) (g : Endpoint) → MadeOf n f c g → (l : List Asked) (call : Call) (k : Cookies) (i : ℕ)
    → (slot_at (ends g l) i).stage ≡ Connected
    → (slot_at (next (ends g l) call k) i ≡ slot_at (ends g l) i)
    ⊎ (EndedBy k (ends g l) i call × (slot_at (next (ends g l) call k) i ≡ free_slot))

-- ---- what one call makes of one slot

-- x is what slot i becomes by the call c: it stays; it is freed; it is taken by a start or an arrival; or a message on it moves it, and then name, flags
-- and creation are those that the name message brings, or flags and creation those of the challenge message, or all three are kept
pub data SlotStep (g : Endpoint) (i : ℕ) (c : Call) (x : Slot) : Type 0 where
  same : x ≡ slot_at g i → SlotStep g i c x
  is_freed : x ≡ free_slot → SlotStep g i c x
  by_start : (n out : List ℕ) → c ≡ Start n out → x ≡ opened AwaitsStatus n → SlotStep g i c x
  by_arrival : c ≡ Arrive → x ≡ opened AwaitsName [] → SlotStep g i c x
  by_name : (f : List ℕ) (h : ℕ) (out : List ℕ) → c ≡ Message i f h out → (slot_at g i).stage ≡ AwaitsName
      → (x ≡ heard (name_name (body f)) (name_flags (body f)) (name_creation (body f)) AwaitsReply h)
      ⊎ (x ≡ heard (name_name (body f)) (name_flags (body f)) (name_creation (body f)) AwaitsAlive 0) → SlotStep g i c x
  by_true : (f : List ℕ) (h : ℕ) (out : List ℕ) → c ≡ Message i f h out → (slot_at g i).stage ≡ AwaitsAlive
      → x ≡ sent (slot_at g i) AwaitsReply h → SlotStep g i c x
  by_status : (f : List ℕ) (h : ℕ) (out : List ℕ) → c ≡ Message i f h out → (slot_at g i).stage ≡ AwaitsStatus
      → x ≡ moved (slot_at g i) AwaitsChallenge → SlotStep g i c x
  by_challenge : (f : List ℕ) (h : ℕ) (out : List ℕ) → c ≡ Message i f h out → (slot_at g i).stage ≡ AwaitsChallenge
      → x ≡ challenged (slot_at g i) h (body f) → SlotStep g i c x
  by_digest : (f : List ℕ) (h : ℕ) (out : List ℕ) → c ≡ Message i f h out
      → ((slot_at g i).stage ≡ AwaitsReply) ⊎ ((slot_at g i).stage ≡ AwaitsAck) → x ≡ moved (slot_at g i) Connected → SlotStep g i c x

-- (Steps.slot_steps)
abbrev pub SlotSteps : Type 0
SlotSteps = (k : Cookies) (g : Endpoint) (c : Call) (i : ℕ) → SlotStep g i c (slot_at (next g c k) i)

-- a slot told as freed is one of the 32, was taken, is another than the one named, and is free (Freed.freed_was_taken)
pub record WasTaken (g : Endpoint) (s o : ℕ) (after : Endpoint) : Type 0 where
  pub within : o < 32
  pub taken : kind_of (slot_at g o) ≡ idle → ⊥
  pub other : o ≡ s → ⊥
  pub free : slot_at after o ≡ free_slot

abbrev pub FreedWasTaken : Type 0
FreedWasTaken =
    (n : List ℕ) (f c : ℕ) (g : Endpoint) → MadeOf n f c g → (l : List Asked) (k : Cookies) (s : ℕ) (m : List ℕ) (h : ℕ) (out : List ℕ)
    (st : Stage) (o count : ℕ) → (step (ends g l) (Message s m h out) k).told.answer ≡ Ok (Answered st (Some o) count)
    → WasTaken (ends g l) s o (next (ends g l) (Message s m h out) k)

-- the stage that a message tells is the one in which its slot then is (Freed.stage_told)
abbrev pub StageTold : Type 0
StageTold =
    (n : List ℕ) (f c : ℕ) (g : Endpoint) → MadeOf n f c g → (l : List Asked) (k : Cookies) (s : ℕ) (m : List ℕ) (h : ℕ) (out : List ℕ)
    (st : Stage) (o : Freed) (count : ℕ) → (step (ends g l) (Message s m h out) k).told.answer ≡ Ok (Answered st o count)
    → (slot_at (next (ends g l) (Message s m h out) k) s).stage ≡ st

-- a slot that a message on slot s ends is told: as the slot named, whose stage told is Free or whose refusal frees, or as the other slot
pub data EndTold (s j : ℕ) (a : Result Answer Refusal) : Type 0 where
  as_named : j ≡ s → (o : Freed) (count : ℕ) → a ≡ Ok (Answered Free o count) → EndTold s j a
  as_refused : j ≡ s → (r : Refusal) → a ≡ Err r → message_fate r ≡ free → EndTold s j a
  as_other : (st : Stage) (count : ℕ) → a ≡ Ok (Answered st (Some j) count) → EndTold s j a

-- (Freed.ends_told)
abbrev pub EndsTold : Type 0
EndsTold =
    (k : Cookies) (g : Endpoint) (s : ℕ) (f : List ℕ) (h : ℕ) (out : List ℕ) (j : ℕ) → ((slot_at g j).stage ≡ Free → ⊥)
    → (slot_at (next g (Message s f h out) k) j).stage ≡ Free → EndTold s j (step g (Message s f h out) k).told.answer

-- a message ends the slot named, which was taken, exactly if its answer says so (Freed.end_exact)
abbrev pub EndExact : Type 0
EndExact =
    (n : List ℕ) (f c : ℕ) (g : Endpoint) → MadeOf n f c g → (l : List Asked) (k : Cookies) (s : ℕ) (m : List ℕ) (h : ℕ) (out : List ℕ)
    → ((slot_at (ends g l) s).stage ≡ Free → ⊥)
    → ends_slot (step (ends g l) (Message s m h out) k).told.answer ≡ eqb (stage_number (slot_at (next (ends g l) (Message s m h out) k) s).stage) 0
