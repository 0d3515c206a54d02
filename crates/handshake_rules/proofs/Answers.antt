-- The calls where nothing is refused, and what a message's answer tells. Assumes nothing.
use Rattle.std.specs.Prelude.{Ok}
use Prim.Native.Nat.{ℕ}
use mathlib.Core.Path.{◌≡◌, ap}
use mathlib.Core.Bool.{Bool, true, false}
use mathlib.Core.List.{List}
use native.Mathlib.Omega.{arith}
use Rattle.wire.specs.Run.{same_bytes}
use Rattle.handshake_rules.specs.declared.endpoint.Stage.{Stage}
use Rattle.handshake_rules.specs.State.{Endpoint, Freed}
use Rattle.handshake_rules.specs.declared.endpoint.Answer.TheVariants.{Answered}
use Rattle.handshake_rules.specs.Refusals.{unless, Check}
use Rattle.handshake_rules.specs.Endpoint.{slot_at, put, free_other}
use Rattle.handshake_rules.specs.Cookie.{checking, writing, fit, digest_of}
use Rattle.handshake_rules.specs.Plans.{Done, Act, stop, go, Plan, sure, proven, fails, judged, settled, finished, concluded}
use Rattle.handshake_rules.specs.Calls.{new_tests, new_of, start_tests, start_of, arrive_tests, arrive_of, close_tests, close_of, awaited, message_tests, plan, message_of}
use Rattle.handshake_rules.specs.Claims.{MadeUnrefused, StartedUnrefused, ArrivedUnrefused, ClosedUnrefused, MessageUnrefused, Tells, AnswerTells}
use Rattle.handshake_rules.proofs.CheckLaws.{passed}

pub made_unrefused : MadeUnrefused
unfolding new_of
made_unrefused n f c h = rw (passed (new_tests n f) h)

pub started_unrefused : StartedUnrefused
unfolding start_of
started_unrefused g n size h = rw (passed (start_tests g n size) h)

pub arrived_unrefused : ArrivedUnrefused
unfolding arrive_of
arrived_unrefused g h = rw (passed (arrive_tests g) h)

pub closed_unrefused : ClosedUnrefused
unfolding close_of
closed_unrefused g s h = rw (passed (close_tests g s) h)

pub message_unrefused : MessageUnrefused
unfolding message_of plan
message_unrefused k g s f c size h =
    ap (λ (x : Check). concluded (checking k) (writing k) g s (unless fails (awaited g s f c).rule x))
    (passed (message_tests g s size (fit (slot_at g s).stage (checking k) (writing k)) f (awaited g s f c)) h)

-- what is done tells of it
module _ (i w : List ℕ) (g : Endpoint) (s : ℕ) (st : Stage) (o : Freed) (count : ℕ) where
  abbrev Telling : Done → Type 0
  Telling d = d.told.answer ≡ Ok (Answered st o count) → Tells g s st o d.told.endpoint

  go_tells : (a : Act) → Telling (finished w g s (go a))
  unfolding finished
  go_tells a e =
      let p : a.slot.stage ≡ st = cc in
      let q : a.other ≡ o = cc in
      record { slot = a.slot; stage = p; endpoint = ap (λ (x : Freed). put (free_other g x) s a.slot) q }

  stop_tells : (r : _) → Telling (finished w g s (stop r))
  unfolding finished
  stop_tells r e = let z : ◌≡◌ {A = ℕ} 0 1 = cc in absurd (omega arith)

  plan_tells : (p : Plan) → Telling (concluded i w g s p)
  unfolding settled
  plan_tells (sure (stop r)) = stop_tells r
  plan_tells (sure (go a)) = go_tells a
  plan_tells (proven c d a) = by (same_bytes d (digest_of c i)) where
    by : (x : Bool) → Telling (finished w g s (judged x a))
    by true = go_tells a
    by false = stop_tells _

pub answer_tells : AnswerTells
unfolding message_of
answer_tells k g s f c size st o count =
    plan_tells (checking k) (writing k) g s st o count (plan g s f c size (fit (slot_at g s).stage (checking k) (writing k)))
