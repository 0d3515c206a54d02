-- Every plan, walked once: what is checked, what is connected, and how much is written. The other files use its parts. Assumes nothing.
use Prim.Native.Nat.{ℕ, ◌≤◌}
use mathlib.Core.Path.{◌≡◌, refl}
use mathlib.Core.Bool.{Bool, true, false, cond}
use mathlib.Core.List.{List, [], ◌++◌}
use native.Mathlib.Omega.{arith}
use lib.ListN.{length, length-append}
use Rattle.wire.specs.Run.{same_bytes}
use Rattle.wire.specs.Frame.{body}
use Rattle.names.specs.Held.{name_bytes}
use Rattle.handshake_rules.specs.declared.refusal.Refusal.{Refusal}
use Rattle.handshake_rules.specs.declared.endpoint.Stage.{Stage}
use Rattle.handshake_rules.specs.declared.endpoint.Stage.TheVariants.{Free, AwaitsName, AwaitsAlive, AwaitsReply, AwaitsStatus, AwaitsChallenge, AwaitsAck, Connected}
use Rattle.handshake_rules.specs.declared.endpoint.Slot.{Slot}
use Rattle.handshake_rules.specs.State.{Endpoint}
use Rattle.handshake_rules.specs.declared.accepting.Greeting.{Greeting}
use Rattle.handshake_rules.specs.declared.accepting.Greeting.TheVariants.{NotAllowed, Nok, OkSimultaneous, Alive, Ok}
use Rattle.handshake_rules.specs.Refusals.{keep, free, message_fate}
use Rattle.handshake_rules.specs.Endpoint.{slot_at, is_a, connected, put, freed, free_other}
use Rattle.handshake_rules.specs.Messages.{status_message, name_flags, name_creation, name_name, status_word, ok, ok_simultaneous, nok, not_allowed, alive, true_word, false_word}
use Rattle.handshake_rules.specs.Cookie.{Cookies, checking, writing, fit, digest_of}
use Rattle.handshake_rules.specs.Plans.{Writes, plain, reply, ack, stop, go, Plan, sure, proven, fails, judged, settled, spared, finished, concluded, moved, challenge_of}
use Rattle.handshake_rules.specs.declared.connecting.Reaction.{Reaction}
use Rattle.handshake_rules.specs.declared.connecting.Reaction.TheVariants.{Proceed, Confirm, GiveUp, Unknown}
use Rattle.handshake_rules.specs.Accepting.{greeting, on_name}
use Rattle.handshake_rules.specs.Connecting.{reaction, on_status}
use Rattle.handshake_rules.specs.Calls.{start_tests, arrive_tests, close_tests, begun, silent, kept, arrived, start_of, arrive_of, close_of, expected, awaited, message_tests, plan, message_of}
use Rattle.handshake_rules.specs.Runs.{Call, Start, Arrive, Close, Message, step, next}
use Rattle.handshake_rules.specs.SlotClaims.{Carries, by_reply, by_ack}
use Rattle.handshake_rules.specs.Claims.{NoneHolds}
use Rattle.handshake_rules.proofs.CheckLaws.{unless_elim}
use Rattle.handshake_rules.proofs.MessageLaws.{challenge_size, status_size}

-- ---- sizes

-- at most 294 bytes; a digest's message is short
abbrev pub Small : Writes → Type 0
Small (plain bs) = length bs ≤ 294
Small (reply ours theirs) = Unit
Small (ack theirs) = Unit

-- ---- the walk

-- without a check nothing is connected; a check is of the slot's challenge and the message's digest, and connects the slot
abbrev pub Sane : Endpoint → Slot → List ℕ → Plan → Type 0
Sane g sl b (sure (stop r)) = Unit
Sane g sl b (sure (go a)) = (is_a connected a.slot ≡ false) × (length (name_bytes g.name) ≤ 255 → Small a.writes)
Sane g sl b (proven c d a) = (c ≡ sl.challenge) × Carries sl b d × (a.slot ≡ moved sl Connected) × (length (name_bytes g.name) ≤ 255 → Small a.writes)

-- a plan that is one of two
pub either : (P : Plan → Type 0) (x : Bool) (p q : Plan) → P p → P q → P (cond x p q)
either P true p q hp hq = hp
either P false p q hp hq = hq

module _ (g : Endpoint) (sl : Slot) (b : List ℕ) where
  -- bytes of which at most 18 stand before a challenge
  long : (c : ℕ) (s : List ℕ) → length s ≤ 18 → length (name_bytes g.name) ≤ 255 → length (s ++ challenge_of g c) ≤ 294
  long c s l h =
      rw (length-append s (challenge_of g c)) (omega (arith, challenge_size g.flags c g.creation (name_bytes g.name)))

  word : (w : List ℕ) → length w ≤ 15 → length (status_message w) ≤ 18
  word w h = omega (arith, status_size w)

  sane_on_name : (n : List ℕ) (f k c : ℕ) (x : Greeting) → Sane g sl b (on_name g n f k c x)
  sane_on_name n f k c NotAllowed = (refl, λ h. omega (arith, word not_allowed (omega arith)))
  sane_on_name n f k c Nok = (refl, λ h. omega (arith, word nok (omega arith)))
  sane_on_name n f k c (OkSimultaneous mine) = (refl, long c (status_message ok_simultaneous) (word ok_simultaneous (omega arith)))
  sane_on_name n f k c Alive = (refl, λ h. omega (arith, word alive (omega arith)))
  sane_on_name n f k c Ok = (refl, long c (status_message ok) (word ok (omega arith)))

  sane_status : (x : Reaction) → Sane g sl b (on_status sl x)
  sane_status Proceed = (refl, λ h. omega arith)
  sane_status Confirm = (refl, λ h. omega (arith, word true_word (omega arith)))
  sane_status GiveUp = tt
  sane_status Unknown = tt

  pub sane_rule : (c : ℕ) (st : Stage) → sl.stage ≡ st → Sane g sl b (expected g sl c b st).rule
  unfolding expected
  sane_rule c Free e = tt
  sane_rule c AwaitsName e = sane_on_name (name_name b) (name_flags b) (name_creation b) c (greeting g (name_name b))
  sane_rule c AwaitsAlive e =
      either (Sane g sl b) (same_bytes (status_word b) true_word) _ _ (refl, long c [] (omega arith))
      (either (Sane g sl b) (same_bytes (status_word b) false_word) _ _ (refl, λ h. omega arith) tt)
  sane_rule c AwaitsReply e = (refl, by_reply e refl, refl, λ h. tt)
  sane_rule c AwaitsStatus e =
      sane_status (reaction (status_word b))
  sane_rule c AwaitsChallenge e = (refl, λ h. tt)
  sane_rule c AwaitsAck e = (refl, by_ack e refl, refl, λ h. omega arith)
  sane_rule c Connected e = tt

pub sane : (g : Endpoint) (s : ℕ) (f : List ℕ) (c size : ℕ) (fits : Bool) → Sane g (slot_at g s) (body f) (plan g s f c size fits)
unfolding plan
sane g s f c size fits =
    unless_elim (Sane g (slot_at g s) (body f)) fails (awaited g s f c).rule (message_tests g s size fits f (awaited g s f c)) (λ r. tt)
    (λ h. sane_rule g (slot_at g s) (body f) c (slot_at g s).stage refl)

-- ---- the endpoint after a call

-- P holds after whatever a plan does on slot s
abbrev pub Does : (Endpoint → Type 0) → Endpoint → ℕ → Plan → Type 0
Does P g s (sure (stop r)) = Unit
Does P g s (sure (go a)) = P (put (free_other g a.other) s a.slot)
Does P g s (proven c d a) = P (put (free_other g a.other) s a.slot)

pub spared_elim : (P : Endpoint → Type 0) (g : Endpoint) (s : ℕ) (r : Refusal) → P g → P (freed g s) → P (spared g s (message_fate r))
spared_elim P g s r k f = by (message_fate r) where
  by : (x : _) → P (spared g s x)
  by keep = k
  by free = f

module _ (P : Endpoint → Type 0) (g : Endpoint) (k : P g) (f : (s : ℕ) → P (freed g s)) where
  after_plan : (i w : List ℕ) (s : ℕ) (p : Plan) → Does P g s p → P (concluded i w g s p).told.endpoint
  unfolding finished settled
  after_plan i w s (sure (stop r)) h = spared_elim P g s r k (f s)
  after_plan i w s (sure (go a)) h = h
  after_plan i w s (proven c d a) h = by (same_bytes d (digest_of c i)) where
    by : (x : Bool) → P (finished w g s (judged x a)).told.endpoint
    by true = h
    by false = f s

  -- P holds after a call if it holds where nothing changes, where a slot is freed, where one is opened and where a rule acts
  pub after_call : (c : Call) (c' : Cookies)
      → ((n : List ℕ) (size : ℕ) → NoneHolds (start_tests g n size) → P (begun g n).told.endpoint)
      → (NoneHolds (arrive_tests g) → P (arrived g).endpoint)
      → ((s : ℕ) (m : List ℕ) (h size : ℕ) (x : Bool) → NoneHolds (message_tests g s size x m (awaited g s m h)) → Does P g s (awaited g s m h).rule)
      → P (next g c c')
  unfolding step start_of arrive_of close_of message_of plan
  after_call (Start n out) c' st ar ru =
      unless_elim (λ d. P d.told.endpoint) (λ r. silent (kept g r)) (begun g n) (start_tests g n (length out)) (λ r. k) (st n (length out))
  after_call Arrive c' st ar ru = unless_elim (λ t. P t.endpoint) (kept g) (arrived g) (arrive_tests g) (λ r. k) ar
  after_call (Close s) c' st ar ru = unless_elim (λ t. P t.endpoint) (kept g) _ (close_tests g s) (λ r. k) (λ h. f s)
  after_call (Message s m h out) c' st ar ru =
      after_plan (checking c') (writing c') s _
      (unless_elim (Does P g s) fails (awaited g s m h).rule (message_tests g s (length out) (fit (slot_at g s).stage (checking c') (writing c')) m (awaited g s m h)) (λ r. tt)
      (ru s m h (length out) (fit (slot_at g s).stage (checking c') (writing c'))))
