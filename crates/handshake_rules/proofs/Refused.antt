-- A refused call writes nothing, and keeps the endpoint or frees exactly the slot named, as its number says. Assumes nothing.
use Rattle.std.specs.Prelude.{Err}
use Prim.Native.Nat.{ℕ}
use mathlib.Core.Path.{◌≡◌, refl, ◌∙◌, ap}
use mathlib.Core.Bool.{Bool, true, false}
use mathlib.Core.List.{List, []}
use native.Mathlib.Omega.{arith}
use lib.ListN.{length}
use Rattle.wire.specs.Run.{same_bytes}
use Rattle.wire.specs.Output.{written}
use Rattle.wire.proofs.OutputLaws.{written_none}
use Rattle.handshake_rules.specs.declared.refusal.Refusal.{Refusal}
use Rattle.handshake_rules.specs.declared.refusal.Refusal.TheVariants.{WrongDigest}
use Rattle.handshake_rules.specs.State.{Endpoint}
use Rattle.handshake_rules.specs.Refusals.{message_fate}
use Rattle.handshake_rules.specs.Endpoint.{slot_at}
use Rattle.handshake_rules.specs.Cookie.{Cookies, checking, writing, fit, digest_of}
use Rattle.handshake_rules.specs.Plans.{Done, Act, stop, go, Plan, sure, proven, judged, settled, spared, refused, finished, concluded}
use Rattle.handshake_rules.specs.Calls.{start_tests, arrive_tests, close_tests, begun, arrived, silent, kept, start_of, arrive_of, close_of, plan, message_of}
use Rattle.handshake_rules.specs.Runs.{Call, Start, Arrive, Close, Message, step, lent}
use Rattle.handshake_rules.specs.Claims.{after, RefusedQuietly}
use Rattle.handshake_rules.proofs.CheckLaws.{unless_elim}

-- if it is refused, nothing is written, and h is left
abbrev Quiet : Refusal → Endpoint → Done → Type 0
Quiet r h d = d.told.answer ≡ Err r → (d.bytes ≡ []) × (d.told.endpoint ≡ h)

module _ (i w : List ℕ) (g : Endpoint) (s : ℕ) (r : Refusal) where
  stop_quiet : (q : Refusal) → Quiet r (spared g s (message_fate r)) (refused g s q)
  stop_quiet q e = let p : q ≡ r = cc in (refl, ap (λ (x : Refusal). spared g s (message_fate x)) p)

  go_quiet : (a : Act) → Quiet r (spared g s (message_fate r)) (finished w g s (go a))
  unfolding finished
  go_quiet a e = let z : ◌≡◌ {A = ℕ} 0 1 = cc in absurd (omega arith)

  plan_quiet : (p : Plan) → Quiet r (spared g s (message_fate r)) (concluded i w g s p)
  unfolding finished settled
  plan_quiet (sure (stop q)) = stop_quiet q
  plan_quiet (sure (go a)) = go_quiet a
  plan_quiet (proven c d a) = judge (same_bytes d (digest_of c i)) where
    judge : (x : Bool) → Quiet r (spared g s (message_fate r)) (finished w g s (judged x a))
    judge true = go_quiet a
    judge false = stop_quiet WrongDigest

quiet : (k : Cookies) (g : Endpoint) (c : Call) (r : Refusal) → Quiet r (after g c r) (step g c k)
unfolding step start_of arrive_of close_of message_of
quiet k g (Start n out) r =
    unless_elim (Quiet r g) (λ q. silent (kept g q)) (begun g n) (start_tests g n (length out)) (λ q e. (refl, refl))
    (λ h e. let z : ◌≡◌ {A = ℕ} 0 1 = cc in absurd (omega arith))
quiet k g Arrive r =
    unless_elim (λ t. Quiet r g (silent t)) (kept g) (arrived g) (arrive_tests g) (λ q e. (refl, refl))
    (λ h e. let z : ◌≡◌ {A = ℕ} 0 1 = cc in absurd (omega arith))
quiet k g (Close s) r =
    unless_elim (λ t. Quiet r g (silent t)) (kept g) _ (close_tests g s) (λ q e. (refl, refl))
    (λ h e. let z : ◌≡◌ {A = ℕ} 0 1 = cc in absurd (omega arith))
quiet k g (Message s f c out) r =
    plan_quiet (checking k) (writing k) g s r (plan g s f c (length out) (fit (slot_at g s).stage (checking k) (writing k)))

pub refused_quietly : RefusedQuietly
refused_quietly k g c r e =
    let q = quiet k g c r e in
    (q.0, ap (λ (bs : List ℕ). written bs (lent c)) q.0 ∙ written_none (lent c), q.1)
