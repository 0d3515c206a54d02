-- Every slot that an answer tells is below 32. Assumes nothing.
use borrow.Author.Tests.{not-false}
use Prim.Native.Nat.{ℕ}
use mathlib.Core.Path.{◌≡◌, refl, ap}
use mathlib.Core.Bool.{Bool, true, false, cond}
use mathlib.Core.List.{List, []}
use Rattle.wire.specs.Run.{same_bytes, order}
use Rattle.names.specs.Held.{name_bytes}
use Rattle.std.specs.Prelude.{None}
use Rattle.handshake_rules.specs.State.{Endpoint, Freed, Told}
use Rattle.handshake_rules.specs.declared.refusal.Refusal.{Refusal}
use Rattle.handshake_rules.specs.declared.refusal.Refusal.TheVariants.{UnknownStatus}
use Rattle.handshake_rules.specs.declared.endpoint.Stage.{Stage}
use Rattle.handshake_rules.specs.declared.endpoint.Stage.TheVariants.{Free, AwaitsName, AwaitsAlive, AwaitsReply, AwaitsStatus, AwaitsChallenge, AwaitsAck, Connected}
use Rattle.handshake_rules.specs.declared.endpoint.Slot.{Slot}
use Rattle.handshake_rules.specs.declared.endpoint.Sought.TheVariants.{AcceptedFrom, StartedTo, ConnectedTo}
use Rattle.handshake_rules.specs.declared.accepting.Greeting.TheVariants.{NotAllowed, Nok, Alive, Ok}
use Rattle.handshake_rules.specs.declared.connecting.Reaction.{Reaction}
use Rattle.handshake_rules.specs.declared.connecting.Reaction.TheVariants.{Proceed, Confirm, GiveUp, Unknown}
use Rattle.handshake_rules.specs.Answers.{freed_number}
use Rattle.handshake_rules.specs.Cookie.{checking, writing, fit, digest_of}
use Rattle.handshake_rules.specs.Endpoint.{free_slot, slot_at, lowest, is_slot, lowest_free, freed_at}
use Rattle.handshake_rules.specs.Messages.{name_flags, name_creation, name_name, status_word, true_word, false_word}
use Rattle.handshake_rules.specs.Plans.{Done, stop, go, Plan, sure, proven, does, fails, sent, challenge_of, judged, settled, finished, concluded}
use Rattle.handshake_rules.specs.Accepting.{is_greater, contest, greeting, on_name, on_alive}
use Rattle.handshake_rules.specs.Connecting.{reaction, on_status}
use Rattle.handshake_rules.specs.Calls.{kept, silent, begun, arrived, start_tests, start_of, arrive_tests, arrive_of, close_tests, close_of, expected, awaited, message_tests, plan, message_of}
use Rattle.handshake_rules.proofs.CheckLaws.{unless_elim}
use Rattle.birkenschuh.specs.Endpoint.{slot_number}
use Rattle.birkenschuh.specs.Claims.{CrossesWhole, Promises}

below : (s : ℕ) → is_slot s ≡ true → slot_number s ≡ s
below s e = ap (λ (b : Bool). cond b s 32) e

-- ---- the other slot that a plan frees

abbrev Known : Freed → Type 0
Known o = slot_number (freed_number o) ≡ freed_number o

abbrev Frees : Plan → Type 0
Frees (sure (stop r)) = Unit
Frees (sure (go a)) = Known a.other
Frees (proven c d a) = Known a.other

either : (b : Bool) (p q : Plan) → Frees p → Frees q → Frees (cond b p q)
either true p q h k = h
either false p q h k = k

found : (l : ℕ) (b : Bool) → is_slot l ≡ b → Known (freed_at l b)
found l true e = below l e
found l false e = refl

module _ (g : Endpoint) (sl : Slot) (c : ℕ) where
  greeted :
      (n : List ℕ) (f k l : ℕ) (own accepted started higher connected : Bool) → is_slot l ≡ started
      → Frees (on_name g n f k c (cond own NotAllowed (cond accepted Nok (cond started (contest higher l) (cond connected Alive Ok)))))
  greeted n f k l true _ _ _ _ e = refl
  greeted n f k l false true _ _ _ e = refl
  greeted n f k l false false true true _ e = below l e
  greeted n f k l false false true false _ e = refl
  greeted n f k l false false false _ true e = refl
  greeted n f k l false false false _ false e = refl

  named : (b : List ℕ) → Frees (on_name g (name_name b) (name_flags b) (name_creation b) c (greeting g (name_name b)))
  unfolding greeting
  named b =
      let n = name_name b in
      greeted n (name_flags b) (name_creation b) (lowest StartedTo n g) (same_bytes (name_bytes g.name) n) (is_slot (lowest AcceptedFrom n g))
      (is_slot (lowest StartedTo n g)) (is_greater (order n (name_bytes g.name))) (is_slot (lowest ConnectedTo n g)) refl

  lived : (w : List ℕ) → Frees (on_alive g sl c w)
  lived w =
      either (same_bytes w true_word) (does (sent sl AwaitsReply c) None (challenge_of g c))
      (cond (same_bytes w false_word) (does free_slot None []) (fails UnknownStatus)) refl
      (either (same_bytes w false_word) (does free_slot None []) (fails UnknownStatus) refl tt)

  reacted : (r : Reaction) → Frees (on_status sl r)
  reacted Proceed = refl
  reacted Confirm = refl
  reacted GiveUp = tt
  reacted Unknown = tt

  ruled : (b : List ℕ) (st : Stage) → Frees (expected g sl c b st).rule
  unfolding expected
  ruled b Free = tt
  ruled b AwaitsName = named b
  ruled b AwaitsAlive = lived (status_word b)
  ruled b AwaitsReply = found (lowest ConnectedTo (name_bytes sl.name) g) (is_slot (lowest ConnectedTo (name_bytes sl.name) g)) refl
  ruled b AwaitsStatus = reacted (reaction (status_word b))
  ruled b AwaitsChallenge = refl
  ruled b AwaitsAck = refl
  ruled b Connected = tt

-- ---- the calls

module _ (i w : List ℕ) (g : Endpoint) (s : ℕ) where
  finishes : (p : Plan) → Frees p → CrossesWhole (concluded i w g s p).told.answer
  unfolding finished settled
  finishes (sure (stop r)) h = (refl, refl)
  finishes (sure (go a)) h = (refl, h)
  finishes (proven c d a) h = by (same_bytes d (digest_of c i)) where
    by : (x : Bool) → CrossesWhole (finished w g s (judged x a)).told.answer
    by true = (refl, h)
    by false = (refl, refl)

pub promises : Promises
unfolding start_of arrive_of close_of plan message_of
promises =
    record {
      started =
          λ g n size.
          unless_elim (λ (d : Done). CrossesWhole d.told.answer) (λ (r : Refusal). silent (kept g r)) (begun g n) (start_tests g n size)
          (λ r. (refl, refl)) (λ h. (below (lowest_free g) (not-false (is_slot (lowest_free g)) h.1.1.1.0), refl));
      arrived =
          λ g.
          unless_elim (λ (t : Told). CrossesWhole t.answer) (kept g) (arrived g) (arrive_tests g) (λ r. (refl, refl))
          (λ h. (below (lowest_free g) (not-false (is_slot (lowest_free g)) h.0), refl));
      closed = λ g s. unless_elim (λ (t : Told). CrossesWhole t.answer) (kept g) _ (close_tests g s) (λ r. (refl, refl)) (λ h. (refl, refl));
      answered =
          λ k g s f c size.
          finishes (checking k) (writing k) g s (plan g s f c size (fit (slot_at g s).stage (checking k) (writing k)))
          (unless_elim Frees fails (awaited g s f c).rule
          (message_tests g s size (fit (slot_at g s).stage (checking k) (writing k)) f (awaited g s f c)) (λ r. tt)
          (λ h. ruled g (slot_at g s) c _ (slot_at g s).stage));
    }
