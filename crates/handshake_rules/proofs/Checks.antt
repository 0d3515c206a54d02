-- Which messages make a digest check, and of what (specs/Claims). Assumes nothing.
use Rattle.std.specs.Prelude.{Ok, Err}
use Prim.Native.Nat.{ℕ}
use mathlib.Core.Path.{◌≡◌, refl}
use mathlib.Core.Bool.{Bool}
use mathlib.Core.List.{List}
use mathlib.Core.Option.{Option, none}
use lib.ListN.{length}
use Rattle.wire.specs.Run.{same_bytes}
use Rattle.wire.specs.Frame.{body}
use Rattle.handshake_rules.specs.declared.endpoint.Stage.{Stage}
use Rattle.handshake_rules.specs.declared.endpoint.Stage.TheVariants.{Free, AwaitsName, AwaitsAlive, AwaitsReply, AwaitsStatus, AwaitsChallenge, AwaitsAck, Connected}
use Rattle.handshake_rules.specs.declared.endpoint.Slot.{Slot}
use Rattle.handshake_rules.specs.State.{Endpoint}
use Rattle.handshake_rules.specs.declared.accepting.Greeting.{Greeting}
use Rattle.handshake_rules.specs.declared.accepting.Greeting.TheVariants.{NotAllowed, Nok, OkSimultaneous, Alive}
use Rattle.handshake_rules.specs.declared.accepting.Greeting.TheVariants as greet
use Rattle.handshake_rules.specs.declared.connecting.Reaction.{Reaction}
use Rattle.handshake_rules.specs.declared.connecting.Reaction.TheVariants.{Proceed, Confirm, GiveUp, Unknown}
use Rattle.handshake_rules.specs.Refusals.{checked, unless, Check}
use Rattle.handshake_rules.specs.Endpoint.{slot_at}
use Rattle.handshake_rules.specs.Messages.{name_name, name_flags, name_creation, status_word, true_word, false_word}
use Rattle.handshake_rules.specs.Cookie.{checking, writing, fit}
use Rattle.handshake_rules.specs.Plans.{Plan, fails}
use Rattle.handshake_rules.specs.Accepting.{greeting, on_name}
use Rattle.handshake_rules.specs.Connecting.{reaction, on_status}
use Rattle.handshake_rules.specs.Calls.{expected, awaited, message_tests, plan}
use Rattle.handshake_rules.specs.Runs.{verdict, check_of}
use Rattle.handshake_rules.specs.Claims.{check_at, CheckMade}
use Rattle.handshake_rules.proofs.PlanLaws.{either}

module _ (k : List ℕ) (g : Endpoint) (sl : Slot) (b : List ℕ) (c : ℕ) where
  abbrev Unchecked : Plan → Type 0
  Unchecked p = verdict k p ≡ none

  on_name_lem : (n : List ℕ) (f m : ℕ) (x : Greeting) → Unchecked (on_name g n f m c x)
  unfolding verdict
  on_name_lem n f m NotAllowed = refl
  on_name_lem n f m Nok = refl
  on_name_lem n f m (OkSimultaneous mine) = refl
  on_name_lem n f m Alive = refl
  on_name_lem n f m greet.Ok = refl

  on_status_lem : (x : Reaction) → Unchecked (on_status sl x)
  unfolding verdict
  on_status_lem Proceed = refl
  on_status_lem Confirm = refl
  on_status_lem GiveUp = refl
  on_status_lem Unknown = refl

  rule : (st : Stage) → verdict k (expected g sl c b st).rule ≡ check_at st sl b k
  unfolding expected verdict
  rule Free = refl
  rule AwaitsName = on_name_lem (name_name b) (name_flags b) (name_creation b) (greeting g (name_name b))
  rule AwaitsAlive =
      either Unchecked (same_bytes (status_word b) true_word) _ _ refl (either Unchecked (same_bytes (status_word b) false_word) _ _ refl refl)
  rule AwaitsReply = refl
  rule AwaitsStatus = on_status_lem (reaction (status_word b))
  rule AwaitsChallenge = refl
  rule AwaitsAck = refl
  rule Connected = refl

planned : (k : List ℕ) (p : Plan) (v : Option Bool) → verdict k p ≡ v → (x : Check) → verdict k (unless fails p x) ≡ unless (λ r. none) v x
unfolding verdict
planned k p v e (Ok _) = e
planned k p v e (Err r) = refl

pub check_made : CheckMade
unfolding check_of plan
check_made g s f c out k =
    planned (checking k) (awaited g s f c).rule (check_at (slot_at g s).stage (slot_at g s) (body f) (checking k))
    (rule (checking k) g (slot_at g s) (body f) c (slot_at g s).stage)
    (checked (message_tests g s (length out) (fit (slot_at g s).stage (checking k) (writing k)) f (awaited g s f c)))
