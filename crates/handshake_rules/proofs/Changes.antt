-- What a message comes to, and what a call makes of one slot, each case by its cause. Assumes nothing.
use Rattle.std.specs.Prelude.{None, Some, Ok, Err}
use Prim.Native.Nat.{ℕ}
use mathlib.Core.Path.{◌≡◌, refl, sym, ◌∙◌, ap, subst}
use mathlib.Core.Logic.{⊎_elim}
use mathlib.Core.Bool.{Bool, true, false}
use mathlib.Core.List.{List, []}
use native.Mathlib.Omega.{arith}
use lib.ListN.{length}
use Rattle.wire.specs.Run.{same_bytes}
use Rattle.handshake_rules.specs.declared.refusal.Refusal.{Refusal}
use Rattle.handshake_rules.specs.declared.endpoint.Stage.TheVariants.{AwaitsName, AwaitsStatus}
use Rattle.handshake_rules.specs.declared.endpoint.Slot.{Slot}
use Rattle.handshake_rules.specs.State.{Endpoint, Freed}
use Rattle.handshake_rules.specs.Refusals.{Test, checked, unless, Check}
use Rattle.handshake_rules.specs.Endpoint.{free_slot, slot_at, put, freed, free_other}
use Rattle.handshake_rules.specs.Cookie.{Cookies, checking, writing, fit, digest_of}
use Rattle.handshake_rules.specs.Plans.{Done, Act, Outcome, stop, go, Plan, sure, proven, fails, judged, settled, render, refused, answered, finished, concluded}
use Rattle.handshake_rules.specs.Calls.{opened, start_tests, arrive_tests, close_tests, begun, arrived, silent, kept, start_of, arrive_of, close_of, awaited, message_tests, plan, message_of}
use Rattle.handshake_rules.specs.Runs.{Call, Start, Arrive, Close, Message, step, next}
use Rattle.handshake_rules.specs.Claims.{NoneHolds}
use Rattle.handshake_rules.proofs.CheckLaws.{none_holds, unless_elim}
use Rattle.handshake_rules.proofs.SlotLaws.{put_at}
use Rattle.handshake_rules.proofs.PlanLaws.{spared_elim}

-- ---- a message

-- no test refuses it, its rule comes to an act, and that is done
pub record Acted (k : Cookies) (g : Endpoint) (s : ℕ) (f : List ℕ) (c size : ℕ) (a : Act) : Type 0 where
  pub passes : NoneHolds (message_tests g s size (fit (slot_at g s).stage (checking k) (writing k)) f (awaited g s f c))
  pub comes : settled (checking k) (awaited g s f c).rule ≡ go a
  pub done : message_of k g s f c size ≡ answered g s a.slot a.other (render (writing k) a.writes)

pub data Came (k : Cookies) (g : Endpoint) (s : ℕ) (f : List ℕ) (c size : ℕ) : Type 0 where
  stops : (r : Refusal) → message_of k g s f c size ≡ refused g s r → Came k g s f c size
  acts : (a : Act) → Acted k g s f c size a → Came k g s f c size

pub came : (k : Cookies) (g : Endpoint) (s : ℕ) (f : List ℕ) (c size : ℕ) → Came k g s f c size
unfolding message_of plan finished settled
came k g s f c size = by (checked tests) refl
  where
    tests : List Test
    tests = message_tests g s size (fit (slot_at g s).stage (checking k) (writing k)) f (awaited g s f c)

    ends : Check → Done
    ends x = concluded (checking k) (writing k) g s (unless fails (awaited g s f c).rule x)

    rule : checked tests ≡ Ok tt → (o : Outcome) → settled (checking k) (awaited g s f c).rule ≡ o → Came k g s f c size
    rule e (stop r) p = stops r (ap ends e ∙ ap (finished (writing k) g s) p)
    rule e (go a) p = acts a (record { passes = none_holds tests e; comes = p; done = ap ends e ∙ ap (finished (writing k) g s) p })

    by : (x : Check) → checked tests ≡ x → Came k g s f c size
    by (Ok _) e = rule e (settled (checking k) (awaited g s f c).rule) refl
    by (Err r) e = stops r (ap ends e)

-- Q holds of whatever a plan does
abbrev pub OnAct : (Act → Type 0) → Plan → Type 0
OnAct Q (sure (stop r)) = Unit
OnAct Q (sure (go a)) = Q a
OnAct Q (proven c d a) = Q a

pub act_of : (Q : Act → Type 0) (k : List ℕ) (p : Plan) (a : Act) → OnAct Q p → settled k p ≡ go a → Q a
unfolding settled
act_of Q k (sure (stop r)) a h e = let z : ◌≡◌ {A = ℕ} 0 1 = cc in absurd (omega arith)
act_of Q k (sure (go b)) a h e = let q : b ≡ a = cc in subst Q q h
act_of Q k (proven c d b) a h e = by (same_bytes d (digest_of c k)) e
  where
    by : (x : Bool) → judged x b ≡ go a → Q a
    by true e = let q : b ≡ a = cc in subst Q q h
    by false e = let z : ◌≡◌ {A = ℕ} 0 1 = cc in absurd (omega arith)

-- ---- one slot

-- x is what slot i is after a call
pub data Change (k : Cookies) (g : Endpoint) (i : ℕ) (c : Call) (x : Slot) : Type 0 where
  unchanged : x ≡ slot_at g i → Change k g i c x
  emptied : x ≡ free_slot → Change k g i c x
  begins : (n out : List ℕ) → c ≡ Start n out → x ≡ opened AwaitsStatus n → Change k g i c x
  comes_in : c ≡ Arrive → x ≡ opened AwaitsName [] → Change k g i c x
  moves : (f : List ℕ) (h : ℕ) (out : List ℕ) → c ≡ Message i f h out → (a : Act) → Acted k g i f h (length out) a → x ≡ a.slot → Change k g i c x

module _ (k : Cookies) (g : Endpoint) (i : ℕ) (c : Call) where
  put_changes : (h : Endpoint) (s : ℕ) (x : Slot) → Change k g i c (slot_at h i) → (s ≡ i → Change k g i c x) → Change k g i c (slot_at (put h s x) i)
  put_changes h s x o n =
      ⊎_elim (λ p. subst (Change k g i c) (sym p) o) (λ p. subst (Change k g i c) (sym p.1) (n p.0)) (put_at h s x i)

  frees : (s : ℕ) → Change k g i c (slot_at (freed g s) i)
  frees s = put_changes g s free_slot (unchanged refl) (λ e. emptied refl)

  frees_other : (o : Freed) → Change k g i c (slot_at (free_other g o) i)
  frees_other None = unchanged refl
  frees_other (Some s) = frees s

message_changes : (k : Cookies) (g : Endpoint) (i s : ℕ) (f : List ℕ) (h : ℕ) (out : List ℕ) → Came k g s f h (length out)
    → Change k g i (Message s f h out) (slot_at (message_of k g s f h (length out)).told.endpoint i)
message_changes k g i s f h out (stops r e) =
    subst (λ d. Change k g i (Message s f h out) (slot_at d.told.endpoint i)) (sym e)
    (spared_elim (λ x. Change k g i (Message s f h out) (slot_at x i)) g s r (unchanged refl) (frees k g i (Message s f h out) s))
message_changes k g i s f h out (acts a d) =
    subst (λ d. Change k g i (Message s f h out) (slot_at d.told.endpoint i)) (sym d.done)
    (put_changes k g i (Message s f h out) (free_other g a.other) s a.slot (frees_other k g i (Message s f h out) a.other) here)
  where
    here : s ≡ i → Change k g i (Message s f h out) a.slot
    here q =
        moves f h out (ap (λ (j : ℕ). Message j f h out) q) a (subst (λ (j : ℕ). Acted k g j f h (length out) a) q d) refl

pub changes : (k : Cookies) (g : Endpoint) (i : ℕ) (c : Call) → Change k g i c (slot_at (next g c k) i)
unfolding step start_of arrive_of close_of
changes k g i (Start n out) =
    unless_elim (λ d. Change k g i (Start n out) (slot_at d.told.endpoint i)) (λ r. silent (kept g r)) (begun g n) (start_tests g n (length out))
    (λ r. unchanged refl) (λ h. put_changes k g i (Start n out) g _ (opened AwaitsStatus n) (unchanged refl) (λ e. begins n out refl refl))
changes k g i Arrive =
    unless_elim (λ t. Change k g i Arrive (slot_at t.endpoint i)) (kept g) (arrived g) (arrive_tests g) (λ r. unchanged refl)
    (λ h. put_changes k g i Arrive g _ (opened AwaitsName []) (unchanged refl) (λ e. comes_in refl refl))
changes k g i (Close s) =
    unless_elim (λ t. Change k g i (Close s) (slot_at t.endpoint i)) (kept g) _ (close_tests g s) (λ r. unchanged refl)
    (λ h. frees k g i (Close s) s)
changes k g i (Message s f h out) = message_changes k g i s f h out (came k g s f h (length out))
