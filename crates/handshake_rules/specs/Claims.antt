-- What is proved of the calls' definitions, beside the contracts that are equations with them; of slots in SlotClaims, of messages in MessageClaims, of
-- refusals in NumberClaims, of flags in FlagClaims, of the digest in DigestClaims. Each claim names the theorem in proofs/ that is its proof.
use Rattle.std.specs.Prelude.{ℕ, ◌≤◌, ◌≡◌, Bool, true, false, List, [], ◌∷◌, map, length, Ok, Err}
use Rattle.std.proofs.Math.Option.{Option, none, some}
use Rattle.wire.specs.Run.{same_bytes}
use Rattle.wire.specs.Frame.{body}
use Rattle.names.specs.Held.{name_of}
use Rattle.names.specs.Full.{full_name}
use Rattle.handshake_rules.specs.declared.refusal.Refusal.{Refusal}
use Rattle.handshake_rules.specs.declared.endpoint.Stage.{Stage}
use Rattle.handshake_rules.specs.declared.endpoint.Stage.TheVariants.{Free, AwaitsName, AwaitsAlive, AwaitsReply, AwaitsStatus, AwaitsChallenge, AwaitsAck, Connected}
use Rattle.handshake_rules.specs.declared.endpoint.Slot.{Slot}
use Rattle.handshake_rules.specs.State.{Endpoint, Freed}
use Rattle.handshake_rules.specs.declared.endpoint.Answer.TheVariants.{Closed, Answered}
use Rattle.handshake_rules.specs.Refusals.{message_fate, Test, ◌given-if◌, checked, unless}
use Rattle.handshake_rules.specs.Flags.{good_flags}
use Rattle.handshake_rules.specs.Endpoint.{fresh, slot_at, put, freed, free_other}
use Rattle.handshake_rules.specs.Messages.{reply_digest, ack_digest}
use Rattle.handshake_rules.specs.Cookie.{Cookies, checking, writing, allowed, fit, digest_of}
use Rattle.handshake_rules.specs.Plans.{spared, concluded}
use Rattle.handshake_rules.specs.Calls.{new_tests, start_tests, begun, start_of, arrive_tests, arrived, arrive_of, close_tests, close_of, awaited, message_tests, message_of}
use Rattle.handshake_rules.specs.Runs.{Call, Start, Arrive, Close, Message, step, next, lent, left, used, check_of, Given, moments, before_split, All, Alike, Agree, Asked, ends, MadeOf}
use Rattle.handshake_rules.specs.NumberClaims.{GivenExactly, NumbersApart}
use Rattle.handshake_rules.specs.FlagClaims.{FlagsTested, OneAnswer, GoodExactly, CarriedOn, ToldBeside}
use Rattle.handshake_rules.specs.DigestClaims.{RealDigests}
use Rattle.handshake_rules.specs.MessageClaims.{NameReadBack, ChallengeReadBack, StatusReadBack, ReplyReadBack, AckReadBack, FrameSplits}
use Rattle.handshake_rules.specs.SlotClaims.{OnlyByDigest, ConnectedByDigest, SentChallenge, SentReply, LastSent, Recorded, PeersApart, Lasting, SlotSteps, FreedWasTaken, StageTold, EndsTold, EndExact}

-- no test of a list holds
abbrev pub NoneHolds : List Test → Type 0
NoneHolds [] = Unit
NoneHolds ((r given-if b) ∷ ts) = (b ≡ false) × NoneHolds ts

-- ---- demand 3 (Secrecy.demand3)

-- Two endpoints made from the same arguments, and one list of calls with the cookies of each run apart. If, in every call before the first whose
-- digest check passes in one run and fails in the other, the cookie used is of allowed length in both runs or in neither, then both runs agree in
-- all those calls; and in all calls if there is no such check.
abbrev pub Demand3 : Type 0
Demand3 =
    (n : List ℕ) (f c : ℕ) (g h : Endpoint) → MadeOf n f c g → MadeOf n f c h → (calls : List Given)
    → All Alike (before_split (moments g h calls)) → All Agree (before_split (moments g h calls))

-- "A digest check is made by a message that comes to the rule of awaits reply or awaits acknowledgement; it passes if the digest read is that of the
-- challenge" which the slot holds (LastSent: the one last sent on it), "with the call's cookie". Any endpoint (Checks.check_made)
abbrev pub check_at : Stage → Slot → List ℕ → List ℕ → Option Bool
check_at Free sl b k = none
check_at AwaitsName sl b k = none
check_at AwaitsAlive sl b k = none
check_at AwaitsReply sl b k = some (same_bytes (reply_digest b) (digest_of sl.challenge k))
check_at AwaitsStatus sl b k = none
check_at AwaitsChallenge sl b k = none
check_at AwaitsAck sl b k = some (same_bytes (ack_digest b) (digest_of sl.challenge k))
check_at Connected sl b k = none

abbrev pub CheckMade : Type 0
CheckMade =
    (g : Endpoint) (s : ℕ) (f : List ℕ) (c : ℕ) (out : List ℕ) (k : Cookies)
    → check_of g (Message s f c out) k
    ≡ unless (λ r. none) (check_at (slot_at g s).stage (slot_at g s) (body f) (checking k))
    (checked (message_tests g s (length out) (fit (slot_at g s).stage (checking k) (writing k)) f (awaited g s f c)))

-- A slot record "holds no cookie byte and no digest byte": of the cookies lent to a call the endpoint after it, and what it tells, depend only on whether
-- those used are of allowed length and on the verdict of the digest check. Any endpoint, any call (Secrecy.no_secret_kept)
abbrev pub NoSecretKept : Type 0
NoSecretKept =
    (g : Endpoint) (c : Call) (one two : Cookies) → map allowed (used g c one) ≡ map allowed (used g c two) → check_of g c one ≡ check_of g c two
    → (step g c one).told ≡ (step g c two).told

-- ---- refusals

-- the endpoint after a call that is refused with r
abbrev pub after : Endpoint → Call → Refusal → Endpoint
after g (Start n out) r = g
after g Arrive r = g
after g (Close s) r = g
after g (Message s f c out) r = spared g s (message_fate r)

-- a refused call writes nothing, and keeps the endpoint or frees exactly the slot named, as its number says (Refused.refused_quietly)
abbrev pub RefusedQuietly : Type 0
RefusedQuietly =
    (k : Cookies) (g : Endpoint) (c : Call) (r : Refusal) → (step g c k).told.answer ≡ Err r
    → ((step g c k).bytes ≡ []) × (left g c k ≡ lent c) × (next g c k ≡ after g c r)

-- ---- what holds of every endpoint that making and calls give

-- its own name, flags and creation are those of making, and it has 32 slots (Kept.kept_whole)
pub record Own (n : List ℕ) (f c : ℕ) (g : Endpoint) : Type 0 where
  pub name : g.name ≡ name_of n
  pub full : full_name n ≡ true
  pub flags : g.flags ≡ f
  pub good : good_flags f ≡ true
  pub creation : g.creation ≡ c
  pub slots : length g.slots ≡ 32

abbrev pub KeptWhole : Type 0
KeptWhole = (n : List ℕ) (f c : ℕ) (g : Endpoint) → MadeOf n f c g → (l : List Asked) → Own n f c (ends g l)

-- a made endpoint is fresh (Kept.made_fresh)
abbrev pub MadeFresh : Type 0
MadeFresh = (n : List ℕ) (f c : ℕ) (g : Endpoint) → MadeOf n f c g → g ≡ fresh n f c

-- "they write at most 294 bytes" (Size.writes_little)
abbrev pub WritesLittle : Type 0
WritesLittle =
    (n : List ℕ) (f c : ℕ) (g : Endpoint) → MadeOf n f c g → (l : List Asked) (call : Call) (k : Cookies)
    → length (step (ends g l) call k).bytes ≤ 294

-- ---- the calls where nothing is refused, and what an answer tells (Answers)

-- if no refusal's test holds, a call is its rule: making, start, arrive, close (Answers.made_unrefused, started-, arrived-, closed-)
abbrev pub MadeUnrefused : Type 0
MadeUnrefused = (n : List ℕ) (f c : ℕ) → NoneHolds (new_tests n f) → MadeOf n f c (fresh n f c)

abbrev pub StartedUnrefused : Type 0
StartedUnrefused = (g : Endpoint) (n : List ℕ) (size : ℕ) → NoneHolds (start_tests g n size) → start_of g n size ≡ begun g n

abbrev pub ArrivedUnrefused : Type 0
ArrivedUnrefused = (g : Endpoint) → NoneHolds (arrive_tests g) → arrive_of g ≡ arrived g

abbrev pub ClosedUnrefused : Type 0
ClosedUnrefused = (g : Endpoint) (s : ℕ) → NoneHolds (close_tests g s) → close_of g s ≡ record { answer = Ok Closed; endpoint = freed g s }

-- and a message is its stage's rule (Answers.message_unrefused)
abbrev pub MessageUnrefused : Type 0
MessageUnrefused =
    (k : Cookies) (g : Endpoint) (s : ℕ) (f : List ℕ) (c size : ℕ)
    → NoneHolds (message_tests g s size (fit (slot_at g s).stage (checking k) (writing k)) f (awaited g s f c))
    → message_of k g s f c size ≡ concluded (checking k) (writing k) g s (awaited g s f c).rule

-- a message's answer tells exactly which slots became free: the endpoint is the one before it with the slot told freed, and with the slot named in
-- the stage told (Answers.answer_tells)
pub record Tells (g : Endpoint) (s : ℕ) (st : Stage) (o : Freed) (after : Endpoint) : Type 0 where
  pub slot : Slot
  pub stage : slot.stage ≡ st
  pub endpoint : after ≡ put (free_other g o) s slot

abbrev pub AnswerTells : Type 0
AnswerTells =
    (k : Cookies) (g : Endpoint) (s : ℕ) (f : List ℕ) (c size : ℕ) (st : Stage) (o : Freed) (count : ℕ)
    → (message_of k g s f c size).told.answer ≡ Ok (Answered st o count) → Tells g s st o (message_of k g s f c size).told.endpoint

-- ---- all of it (Promises.promises): a claim that is not proved is missed here
pub record Promises : Type 0 where
  pub demand3 : Demand3
  pub check_made : CheckMade
  pub no_secret_kept : NoSecretKept
  pub only_by_digest : OnlyByDigest
  pub connected_by_digest : ConnectedByDigest
  pub sent_challenge : SentChallenge
  pub sent_reply : SentReply
  pub last_sent : LastSent
  pub real_digests : RealDigests
  pub refused_quietly : RefusedQuietly
  pub given_exactly : GivenExactly
  pub numbers_apart : NumbersApart
  pub flags_tested : FlagsTested
  pub one_answer : OneAnswer
  pub good_exactly : GoodExactly
  pub carried_on : CarriedOn
  pub told_beside : ToldBeside
  pub kept_whole : KeptWhole
  pub made_fresh : MadeFresh
  pub writes_little : WritesLittle
  pub recorded : Recorded
  pub peers_apart : PeersApart
  pub lasting : Lasting
  pub slot_steps : SlotSteps
  pub freed_was_taken : FreedWasTaken
  pub stage_told : StageTold
  pub ends_told : EndsTold
  pub end_exact : EndExact
  pub made_unrefused : MadeUnrefused
  pub started_unrefused : StartedUnrefused
  pub arrived_unrefused : ArrivedUnrefused
  pub closed_unrefused : ClosedUnrefused
  pub message_unrefused : MessageUnrefused
  pub answer_tells : AnswerTells
  pub name_read_back : NameReadBack
  pub challenge_read_back : ChallengeReadBack
  pub status_read_back : StatusReadBack
  pub reply_read_back : ReplyReadBack
  pub ack_read_back : AckReadBack
  pub frame_splits : FrameSplits
