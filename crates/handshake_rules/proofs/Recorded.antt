-- Whatever is not yet recorded is zero or empty, and all of a free slot; a recorded peer is a full name, with zero behind it: in every endpoint that
-- making and calls give. Assumes nothing.
use borrow.Author.Tests.{not-false}
use Rattle.std.specs.Prelude.{None, Some}
use Prim.Native.Nat.{ℕ}
use mathlib.Core.Path.{◌≡◌, refl, sym, ◌∙◌, ap, subst}
use mathlib.Core.Logic.{⊎_elim}
use mathlib.Core.Bool.{true}
use mathlib.Core.List.{List, [], ◌∷◌}
use Rattle.wire.specs.Run.{same_bytes}
use Rattle.wire.specs.Frame.{body}
use Rattle.handshake_rules.specs.declared.endpoint.Stage.{Stage}
use Rattle.handshake_rules.specs.declared.endpoint.Stage.TheVariants.{Free, AwaitsName, AwaitsAlive, AwaitsReply, AwaitsStatus, AwaitsChallenge, AwaitsAck, Connected}
use Rattle.handshake_rules.specs.declared.endpoint.Slot.{Slot}
use Rattle.handshake_rules.specs.State.{Endpoint, Freed}
use Rattle.handshake_rules.specs.declared.accepting.Greeting.{Greeting}
use Rattle.handshake_rules.specs.declared.accepting.Greeting.TheVariants.{NotAllowed, Nok, OkSimultaneous, Alive, Ok}
use Rattle.handshake_rules.specs.declared.connecting.Reaction.{Reaction}
use Rattle.handshake_rules.specs.declared.connecting.Reaction.TheVariants.{Proceed, Confirm, GiveUp, Unknown}
use Rattle.names.specs.Held.{name_of, name_bytes}
use Rattle.names.specs.Full.{full_name}
use Rattle.names.proofs.HeldLaws.{name_back}
use Rattle.handshake_rules.specs.Endpoint.{free_slot, slot_at, put, free_other}
use Rattle.handshake_rules.specs.Messages.{name_flags, name_creation, name_name, status_word, true_word, false_word}
use Rattle.handshake_rules.specs.Cookie.{Cookies}
use Rattle.handshake_rules.specs.Plans.{stop, go, Plan, sure, proven}
use Rattle.handshake_rules.specs.Accepting.{greeting, on_name}
use Rattle.handshake_rules.specs.Connecting.{reaction, on_status}
use Rattle.handshake_rules.specs.Calls.{opened, expected, awaited}
use Rattle.handshake_rules.specs.Runs.{Call, next, Asked, ends}
use Rattle.handshake_rules.specs.SlotClaims.{Unrecorded, FullPeer, Holds, Recorded}
use Rattle.handshake_rules.specs.Claims.{NoneHolds}
use Rattle.handshake_rules.specs.Forms.{form_tests}
use Rattle.handshake_rules.proofs.SlotLaws.{put_at, blank}
use Rattle.handshake_rules.proofs.PlanLaws.{either, Does, after_call}
use Rattle.handshake_rules.proofs.Kept.{made_fresh}

abbrev Each : Endpoint → Type 0
Each g = (i : ℕ) → Holds (slot_at g i)

-- what name_of holds
named : (n : List ℕ) → name_of n ≡ name_of (name_bytes (name_of n))
named n = ap name_of (sym (name_back n))

free_holds : Holds free_slot
free_holds = record { unrecorded = refl; full = tt; zero = named [] }

-- the same peer at another stage
goes_on : (sl : Slot) (st : Stage) (f k c : ℕ) → Holds sl → FullPeer st sl → Unrecorded st (record { stage = st; name = sl.name; flags = f; creation = k; challenge = c })
    → Holds (record { stage = st; name = sl.name; flags = f; creation = k; challenge = c })
goes_on sl st f k c h p u = record { unrecorded = u; full = full st p; zero = h.zero }
  where
    full : (st : Stage) → FullPeer st sl → FullPeer st (record { stage = st; name = sl.name; flags = f; creation = k; challenge = c })
    full Free p = tt
    full AwaitsName p = tt
    full AwaitsAlive p = p
    full AwaitsReply p = p
    full AwaitsStatus p = p
    full AwaitsChallenge p = p
    full AwaitsAck p = p
    full Connected p = p

each_put : (g : Endpoint) (s : ℕ) (x : Slot) → Each g → Holds x → Each (put g s x)
each_put g s x h b i = ⊎_elim (λ e. subst Holds (sym e) (h i)) (λ e. subst Holds (sym e.1) b) (put_at g s x i)

each_other : (g : Endpoint) (o : Freed) → Each g → Each (free_other g o)
each_other g None h = h
each_other g (Some s) h = each_put g s free_slot h free_holds

-- what a plan records is bare
abbrev Acts : Plan → Type 0
Acts (sure (stop r)) = Unit
Acts (sure (go a)) = Holds a.slot
Acts (proven c d a) = Holds a.slot

each_plan : (g : Endpoint) (s : ℕ) (p : Plan) → Each g → Acts p → Does Each g s p
each_plan g s (sure (stop r)) h b = tt
each_plan g s (sure (go a)) h b = each_put (free_other g a.other) s a.slot (each_other g a.other h) b
each_plan g s (proven c d a) h b = each_put (free_other g a.other) s a.slot (each_other g a.other h) b

acts_on_name : (g : Endpoint) (n : List ℕ) (f k c : ℕ) (x : Greeting) → full_name n ≡ true → Acts (on_name g n f k c x)
acts_on_name g n f k c NotAllowed e = free_holds
acts_on_name g n f k c Nok e = free_holds
acts_on_name g n f k c (OkSimultaneous mine) e = record { unrecorded = tt; full = ap full_name (name_back n) ∙ e; zero = named n }
acts_on_name g n f k c Alive e = record { unrecorded = refl; full = ap full_name (name_back n) ∙ e; zero = named n }
acts_on_name g n f k c Ok e = record { unrecorded = tt; full = ap full_name (name_back n) ∙ e; zero = named n }

module _ (sl : Slot) (h : Holds sl) where
  full_at : (st : Stage) → sl.stage ≡ st → FullPeer st sl
  full_at st e = subst (λ (st : Stage). FullPeer st sl) e h.full

  acts_status : (x : Reaction) → sl.stage ≡ AwaitsStatus → Acts (on_status sl x)
  acts_status Proceed e = goes_on sl AwaitsChallenge _ _ _ h (full_at AwaitsStatus e) (subst (λ (st : Stage). Unrecorded st sl) e h.unrecorded)
  acts_status Confirm e = goes_on sl AwaitsChallenge _ _ _ h (full_at AwaitsStatus e) (subst (λ (st : Stage). Unrecorded st sl) e h.unrecorded)
  acts_status GiveUp e = tt
  acts_status Unknown e = tt

  acts_rule : (g : Endpoint) (c : ℕ) (b : List ℕ) (st : Stage) → sl.stage ≡ st → NoneHolds (form_tests (expected g sl c b st).form)
      → Acts (expected g sl c b st).rule
  unfolding expected
  acts_rule g c b Free e t = tt
  acts_rule g c b AwaitsName e t =
      acts_on_name g (name_name b) (name_flags b) (name_creation b) c (greeting g (name_name b)) (not-false (full_name (name_name b)) t.1.1.0)
  acts_rule g c b AwaitsAlive e t =
      either Acts (same_bytes (status_word b) true_word) _ _ (goes_on sl AwaitsReply _ _ _ h (full_at AwaitsAlive e) tt)
      (either Acts (same_bytes (status_word b) false_word) _ _ free_holds tt)
  acts_rule g c b AwaitsReply e t = goes_on sl Connected _ _ _ h (full_at AwaitsReply e) tt
  acts_rule g c b AwaitsStatus e t = acts_status (reaction (status_word b)) e
  acts_rule g c b AwaitsChallenge e t = goes_on sl AwaitsAck _ _ _ h (full_at AwaitsChallenge e) tt
  acts_rule g c b AwaitsAck e t = goes_on sl Connected _ _ _ h (full_at AwaitsAck e) tt
  acts_rule g c b Connected e t = tt

each_call : (g : Endpoint) (c : Call) (k : Cookies) → Each g → Each (next g c k)
each_call g c k h =
    after_call Each g h (λ s. each_put g s free_slot h free_holds) c k
    (λ n size t.
    each_put g _ (opened AwaitsStatus n) h
    (record { unrecorded = (refl, refl, refl); full = ap full_name (name_back n) ∙ not-false (full_name n) t.1.0; zero = named n }))
    (λ t. each_put g _ (opened AwaitsName []) h (record { unrecorded = refl; full = tt; zero = named [] }))
    (λ s m ch size x t.
    each_plan g s (awaited g s m ch).rule h
    (acts_rule (slot_at g s) (h s) g ch (body m) (slot_at g s).stage refl t.1.1.1.1.1))

each_run : (g : Endpoint) (l : List Asked) → Each g → Each (ends g l)
unfolding ends
each_run g [] h = h
each_run g (a ∷ rest) h = each_run (next g a.call a.cookies) rest (each_call g a.call a.cookies h)

pub recorded : Recorded
recorded n f c g m l = each_run g l (λ i. subst Holds (sym (ap (λ (h : Endpoint). slot_at h i) (made_fresh n f c g m) ∙ blank (name_of n) f c i)) free_holds)
