-- What one call makes of one slot (specs/SlotClaims). Assumes nothing.
use Prim.Native.Nat.{ℕ}
use mathlib.Core.Path.{◌≡◌, refl, subst, sym}
use mathlib.Core.Logic.{inl, inr}
use mathlib.Core.List.{List}
use Rattle.wire.specs.Run.{same_bytes}
use Rattle.wire.specs.Frame.{body}
use Rattle.handshake_rules.specs.declared.endpoint.Stage.{Stage}
use Rattle.handshake_rules.specs.declared.endpoint.Stage.TheVariants.{Free, AwaitsName, AwaitsAlive, AwaitsReply, AwaitsStatus, AwaitsChallenge, AwaitsAck, Connected}
use Rattle.handshake_rules.specs.declared.endpoint.Slot.{Slot}
use Rattle.handshake_rules.specs.State.{Endpoint}
use Rattle.handshake_rules.specs.declared.accepting.Greeting.{Greeting}
use Rattle.handshake_rules.specs.declared.accepting.Greeting.TheVariants.{NotAllowed, Nok, OkSimultaneous, Alive, Ok}
use Rattle.handshake_rules.specs.declared.connecting.Reaction.{Reaction}
use Rattle.handshake_rules.specs.declared.connecting.Reaction.TheVariants.{Proceed, Confirm, GiveUp, Unknown}
use Rattle.handshake_rules.specs.Endpoint.{slot_at}
use Rattle.handshake_rules.specs.Messages.{name_name, name_flags, name_creation, status_word, true_word, false_word}
use Rattle.handshake_rules.specs.Cookie.{Cookies, checking}
use Rattle.handshake_rules.specs.Plans.{Act}
use Rattle.handshake_rules.specs.Accepting.{greeting, on_name}
use Rattle.handshake_rules.specs.Connecting.{reaction, on_status}
use Rattle.handshake_rules.specs.Calls.{expected, awaited}
use Rattle.handshake_rules.specs.Runs.{Call, Message}
use Rattle.handshake_rules.specs.SlotClaims.{SlotStep, same, is_freed, by_start, by_arrival, by_name, by_true, by_status, by_challenge, by_digest, SlotSteps}
use Rattle.handshake_rules.proofs.PlanLaws.{either}
use Rattle.handshake_rules.proofs.Changes.{OnAct, act_of, Change, unchanged, emptied, begins, comes_in, moves, changes}

-- what a rule puts into the slot of the message
module _ (g : Endpoint) (s : ℕ) (f : List ℕ) (h : ℕ) (out : List ℕ) where
  abbrev Then : Act → Type 0
  Then a = SlotStep g s (Message s f h out) a.slot

  on_name_lem : (slot_at g s).stage ≡ AwaitsName → (x : Greeting) → OnAct Then (on_name g (name_name (body f)) (name_flags (body f)) (name_creation (body f)) h x)
  on_name_lem e NotAllowed = is_freed refl
  on_name_lem e Nok = is_freed refl
  on_name_lem e (OkSimultaneous mine) = by_name f h out refl e (inl refl)
  on_name_lem e Alive = by_name f h out refl e (inr refl)
  on_name_lem e Ok = by_name f h out refl e (inl refl)

  on_status_lem : (slot_at g s).stage ≡ AwaitsStatus → (x : Reaction) → OnAct Then (on_status (slot_at g s) x)
  on_status_lem e Proceed = by_status f h out refl e refl
  on_status_lem e Confirm = by_status f h out refl e refl
  on_status_lem e GiveUp = tt
  on_status_lem e Unknown = tt

  rule : (st : Stage) → (slot_at g s).stage ≡ st → OnAct Then (expected g (slot_at g s) h (body f) st).rule
  unfolding expected
  rule Free e = tt
  rule AwaitsName e = on_name_lem e (greeting g (name_name (body f)))
  rule AwaitsAlive e =
      either (OnAct Then) (same_bytes (status_word (body f)) true_word) _ _ (by_true f h out refl e refl)
      (either (OnAct Then) (same_bytes (status_word (body f)) false_word) _ _ (is_freed refl) tt)
  rule AwaitsReply e = by_digest f h out refl (inl e) refl
  rule AwaitsStatus e = on_status_lem e (reaction (status_word (body f)))
  rule AwaitsChallenge e = by_challenge f h out refl e refl
  rule AwaitsAck e = by_digest f h out refl (inr e) refl
  rule Connected e = tt

stepped : (k : Cookies) (g : Endpoint) (c : Call) (i : ℕ) (x : Slot) → Change k g i c x → SlotStep g i c x
stepped k g c i x (unchanged p) = same p
stepped k g c i x (emptied p) = is_freed p
stepped k g c i x (begins n out q p) = by_start n out q p
stepped k g c i x (comes_in q p) = by_arrival q p
stepped k g c i x (moves f h out q a d p) =
    subst (λ (b : Call). SlotStep g i b x) (sym q)
    (subst (SlotStep g i (Message i f h out)) (sym p)
    (act_of (Then g i f h out) (checking k) (awaited g i f h).rule a (rule g i f h out (slot_at g i).stage refl) d.comes))

pub slot_steps : SlotSteps
slot_steps k g c i = stepped k g c i _ (changes k g i c)
