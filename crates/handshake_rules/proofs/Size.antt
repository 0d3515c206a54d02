-- What a call writes is at most 294 bytes, so that it fits the 300 that are asked for. Assumes nothing.
use Prim.Native.Nat.{ℕ, ◌≤◌}
use mathlib.Core.Path.{◌≡◌, ◌∙◌, ap}
use mathlib.Core.Bool.{Bool, true, false}
use mathlib.Core.List.{List}
use native.Mathlib.Omega.{arith}
use lib.ListN.{length}
use Rattle.wire.specs.Run.{same_bytes}
use Rattle.wire.specs.Frame.{body}
use Rattle.names.specs.Held.{name_bytes}
use Rattle.names.proofs.HeldLaws.{name_back}
use Rattle.handshake_rules.specs.declared.endpoint.Slot.{Slot}
use Rattle.handshake_rules.specs.State.{Endpoint}
use Rattle.handshake_rules.specs.Endpoint.{slot_at}
use Rattle.handshake_rules.specs.Cookie.{Cookies, checking, writing, fit, digest_of}
use Rattle.handshake_rules.specs.Plans.{Done, Writes, plain, reply, ack, stop, go, Plan, sure, proven, judged, settled, render, finished, concluded}
use Rattle.handshake_rules.specs.Calls.{start_tests, begun, silent, kept, start_of, arrive_of, close_of, plan, message_of}
use Rattle.handshake_rules.specs.Runs.{Call, Start, Arrive, Close, Message, step, ends}
use Rattle.handshake_rules.specs.Claims.{WritesLittle}
use Rattle.handshake_rules.proofs.CheckLaws.{unless_elim}
use Rattle.handshake_rules.proofs.MessageLaws.{full_short, name_size, reply_size, ack_size}
use Rattle.handshake_rules.proofs.CookieLaws.{digest_sixteen}
use Rattle.handshake_rules.proofs.PlanLaws.{Small, Sane, sane}
use Rattle.handshake_rules.proofs.Kept.{kept_whole}

small : (k : List ℕ) (w : Writes) → Small w → length (render k w) ≤ 294
unfolding render
small k (plain bs) h = h
small k (reply ours theirs) h = omega (arith, reply_size ours (digest_of theirs k) (digest_sixteen theirs k))
small k (ack theirs) h = omega (arith, ack_size (digest_of theirs k) (digest_sixteen theirs k))

module _ (g : Endpoint) (short : length (name_bytes g.name) ≤ 255) where
  abbrev Little : Done → Type 0
  Little d = length d.bytes ≤ 294

  plan_little : (sl : Slot) (b : List ℕ) (i w : List ℕ) (s : ℕ) (p : Plan) → Sane g sl b p → Little (concluded i w g s p)
  unfolding finished settled
  plan_little sl b i w s (sure (stop r)) h = omega arith
  plan_little sl b i w s (sure (go a)) h = small w a.writes (h.1 short)
  plan_little sl b i w s (proven c d a) h = judge (same_bytes d (digest_of c i)) where
    judge : (x : Bool) → Little (finished w g s (judged x a))
    judge true = small w a.writes (h.3 short)
    judge false = omega arith

  pub call_little : (c : Call) (k : Cookies) → Little (step g c k)
  unfolding step start_of arrive_of close_of message_of
  call_little (Start n out) k =
      unless_elim Little (λ q. silent (kept g q)) (begun g n) (start_tests g n (length out)) (λ q. omega arith)
      (λ h. omega (arith, name_size g.flags g.creation (name_bytes g.name)))
  call_little Arrive k = omega arith
  call_little (Close s) k = omega arith
  call_little (Message s f c out) k =
      plan_little (slot_at g s) (body f) (checking k) (writing k) s (plan g s f c (length out) (fit (slot_at g s).stage (checking k) (writing k)))
      (sane g s f c (length out) (fit (slot_at g s).stage (checking k) (writing k)))

pub writes_little : WritesLittle
writes_little n f c g m l call k =
    let o = kept_whole n f c g m l in
    let b : name_bytes (ends g l).name ≡ n = ap name_bytes o.name ∙ name_back n in
    call_little (ends g l) (omega (arith, ap length b, full_short n o.full)) call k
