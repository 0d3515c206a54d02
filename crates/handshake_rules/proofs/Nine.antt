-- Refusal 9 carries the flag test's answer, and what stands beside a number (specs/FlagClaims). Assumes nothing.
use Rattle.std.specs.Prelude.{Ok, Err, Result}
use Prim.Native.Nat.{ℕ, ◌≤◌}
use mathlib.Core.Path.{◌≡◌, refl, sym, ◌∙◌, ap, subst}
use mathlib.Core.Bool.{Bool, true, false, true≢false, cond, not, ◌&&◌}
use mathlib.Core.List.{List, [], ◌∷◌, ◌++◌, append-nil}
use native.Mathlib.Omega.{arith}
use lib.ListN.{length}
use lib.Dec.{eqb}
use borrow.Author.Tests.{eqb-false}
use Rattle.wire.specs.Frame.{body}
use Rattle.names.specs.Full.{full_name}
use Rattle.handshake_rules.specs.declared.flags.FlagFlaw.{FlagFlaw}
use Rattle.handshake_rules.specs.declared.flags.FlagFlaw.TheVariants.{Missing, NameMe}
use Rattle.handshake_rules.specs.declared.refusal.Refusal.{Refusal}
use Rattle.handshake_rules.specs.declared.refusal.Refusal.TheVariants.{UnknownTag, BadLength, BadName, BadFlags}
use Rattle.handshake_rules.specs.declared.endpoint.Stage.{Stage}
use Rattle.handshake_rules.specs.declared.endpoint.Stage.TheVariants.{Free, AwaitsName, AwaitsAlive, AwaitsReply, AwaitsStatus, AwaitsChallenge, AwaitsAck, Connected}
use Rattle.handshake_rules.specs.declared.endpoint.Slot.{Slot}
use Rattle.handshake_rules.specs.declared.endpoint.Answer.{Answer}
use Rattle.handshake_rules.specs.declared.endpoint.Answer.TheVariants.{Begun, Arrived, Closed, Answered}
use Rattle.handshake_rules.specs.State.{Endpoint}
use Rattle.handshake_rules.specs.Refusals.{only, of_flags, why_of, Test, ◌given-if◌, checked, Check}
use Rattle.handshake_rules.specs.Flags.{bit, required, name_me, missing, flag_test, FlagTest}
use Rattle.handshake_rules.specs.Answers.{making_why, numbers_of}
use Rattle.handshake_rules.specs.Endpoint.{slot_at}
use Rattle.handshake_rules.specs.Messages.{name_flags, challenge_flags}
use Rattle.handshake_rules.specs.Cookie.{Cookies, checking, writing, fit}
use Rattle.handshake_rules.specs.Forms.{Form, flag_tests}
use Rattle.handshake_rules.specs.Calls.{new_of, start_tests, arrive_tests, close_tests, early_tests, frame_tests, expected, awaited}
use Rattle.handshake_rules.specs.Runs.{Call, Start, Arrive, Close, Message, step}
use Rattle.handshake_rules.specs.NumberClaims.{check_why, Givable, rule_tests, all_tests}
use Rattle.handshake_rules.specs.FlagClaims.{Says, Brought, BroughtIn, CarriedOn, Beside, some_missing, name_me_lem, alone, ToldBeside}
use Rattle.handshake_rules.proofs.FlagLaws.{counts, flags_tested}
use Rattle.handshake_rules.proofs.OtherLaws.{Told, number_only, with_flags, told}
use Rattle.handshake_rules.proofs.Numbers.{refused_by, made_check, start_check, arrive_check, close_check, message_check}

-- the number of what a list of tests comes to
abbrev number : Check → ℕ
number x = (check_why x).number

-- whether none of a list's refusals is 9
abbrev without : List Test → Bool
without [] = true
without ((r given-if b) ∷ ts) = not (eqb (why_of r).number 9) && without ts

-- the tests of a form that come before the flags
abbrev before_flags : Form → List Test
before_flags f = UnknownTag given-if not f.served ∷ BadLength given-if not f.fits ∷ BadName given-if not f.named ∷ []

module _ (w : FlagFlaw) where
  abbrev Nine : List Test → Type 0
  Nine ts = checked ts ≡ Err (BadFlags w)

  -- 9 comes from what stands behind tests without it
  behind : (ts us : List Test) → without ts ≡ true → Nine (ts ++ us) → Nine us
  behind [] us n e = e
  behind ((r given-if b) ∷ ts) us n e = by (eqb (why_of r).number 9) b refl n e (behind ts us)
    where
      by : (x b : Bool) → eqb (why_of r).number 9 ≡ x → (not x && without ts) ≡ true → Nine ((r given-if b) ∷ (ts ++ us))
          → (without ts ≡ true → Nine (ts ++ us) → Nine us) → Nine us
      by true b p n e h = absurd (true≢false (sym n))
      by false true p n e h = absurd (eqb-false (why_of r).number 9 p (ap number e))
      by false false p n e h = h n e

  nowhere : (ts : List Test) → without ts ≡ true → Nine ts → ⊥
  nowhere ts n e = none (behind ts [] n (ap checked (append-nil ts) ∙ e))
    where
      none : Nine [] → ⊥
      none e = let z : ◌≡◌ {A = ℕ} 0 9 = ap number e in omega arith

  from_flags : (x : FlagTest) (us : List Test) → without us ≡ true → Nine (flag_tests x ++ us) → x ≡ Err w
  from_flags (Ok _) us n e = absurd (nowhere us n e)
  from_flags (Err v) us n e = ap Err cc

  -- behind the tests before them stand the flags that the message brings, and the stage's rule
  brought : (g : Endpoint) (sl : Slot) (c : ℕ) (b k : List ℕ) (st : Stage) → Nine (flag_tests (expected g sl c b st).form.flags ++ rule_tests st sl b k) → Brought st b w
  unfolding expected
  brought g sl c b k Free e = nowhere [] refl e
  brought g sl c b k AwaitsName e = from_flags (flag_test (name_flags b)) [] refl e
  brought g sl c b k AwaitsAlive e = nowhere (rule_tests AwaitsAlive sl b k) refl e
  brought g sl c b k AwaitsReply e = nowhere (rule_tests AwaitsReply sl b k) refl e
  brought g sl c b k AwaitsStatus e = nowhere (rule_tests AwaitsStatus sl b k) refl e
  brought g sl c b k AwaitsChallenge e = from_flags (flag_test (challenge_flags b)) [] refl e
  brought g sl c b k AwaitsAck e = nowhere (rule_tests AwaitsAck sl b k) refl e
  brought g sl c b k Connected e = nowhere [] refl e

  in_message : (k : Cookies) (g : Endpoint) (s : ℕ) (f : List ℕ) (c size : ℕ)
      → Nine (all_tests k g s f c size) → Brought (slot_at g s).stage (body f) w
  in_message k g s f c size e =
      brought g (slot_at g s) c (body f) (checking k) (slot_at g s).stage
      (behind
      (early_tests s (slot_at g s).stage size (fit (slot_at g s).stage (checking k) (writing k)) ++ (frame_tests f ++ before_flags (awaited g s f c).form))
      (flag_tests (awaited g s f c).form.flags ++ rule_tests (slot_at g s).stage (slot_at g s) (body f) (checking k)) refl e)

pub carried_on : CarriedOn
unfolding step
carried_on =
    record {
      making = λ n f c w e.
          from_flags w (flag_test f) [] refl
          (ap checked (append-nil (flag_tests (flag_test f)))
          ∙ behind w (BadName given-if not (full_name n) ∷ []) (flag_tests (flag_test f)) refl (sym (made_check n f c) ∙ e));
      call = call;
    }
  where
    call : (k : Cookies) (g : Endpoint) (c : Call) (w : FlagFlaw) → (step g c k).told.answer ≡ Err (BadFlags w) → BroughtIn g c w
    call k g (Start n out) w e = nowhere w (start_tests g n (length out)) refl (sym (start_check g n (length out)) ∙ ap refused_by e)
    call k g Arrive w e = nowhere w (arrive_tests g) refl (sym (arrive_check g) ∙ ap refused_by e)
    call k g (Close s) w e = nowhere w (close_tests g s) refl (sym (close_check g s) ∙ ap refused_by e)
    call k g (Message s f c out) w e = in_message w k g s f c (length out) (sym (message_check k g s f c (length out)) ∙ ap refused_by e)

-- ---- what stands beside a number

few : (is : List ℕ) (f : ℕ) → length (missing is f) ≤ length is
few [] f = omega arith
few (i ∷ is) f = by (bit i f) (few is f)
  where
    by : (b : Bool) → length (missing is f) ≤ length is → length (cond b (missing is f) (i ∷ missing is f)) ≤ length (i ∷ is)
    by true h = omega (arith, h)
    by false h = omega (arith, h)

flaw_beside : (f : ℕ) (w : FlagFlaw) → flag_test f ≡ Err w → Beside (of_flags w)
unfolding flag_test
flaw_beside f NameMe e = name_me_lem
flaw_beside f (Missing n i) e =
    let h = counts (missing required f) (bit name_me f) n i e in
    some_missing n i h.0 (omega (arith, h.1, few required f)) (subst (Says f) e (flags_tested f)).required

number_alone : (n : ℕ) → eqb n 9 ≡ false → Beside (only n)
number_alone n e = alone n (eqb-false n 9 e)

beside : (r : Refusal) → Givable (Err r) → Beside (why_of r)
beside r g = by (told r) g
  where
    by : {r : Refusal} → Told r → Givable (Err r) → Beside (why_of r)
    by (number_only q e n) g = subst Beside (sym e) (number_alone (why_of q).number n)
    by (with_flags w) g = flaw_beside (g w refl).0 w (g w refl).1

-- the flags that a call brings are some flags
some_flags : (st : Stage) (b : List ℕ) (w : FlagFlaw) → Brought st b w → (f : ℕ) × (flag_test f ≡ Err w)
some_flags Free b w h = absurd h
some_flags AwaitsName b w h = (name_flags b, h)
some_flags AwaitsAlive b w h = absurd h
some_flags AwaitsReply b w h = absurd h
some_flags AwaitsStatus b w h = absurd h
some_flags AwaitsChallenge b w h = (challenge_flags b, h)
some_flags AwaitsAck b w h = absurd h
some_flags Connected b w h = absurd h

flags_in : (g : Endpoint) (c : Call) (w : FlagFlaw) → BroughtIn g c w → (f : ℕ) × (flag_test f ≡ Err w)
flags_in g (Start n out) w h = absurd h
flags_in g Arrive w h = absurd h
flags_in g (Close s) w h = absurd h
flags_in g (Message s f c out) w h = some_flags (slot_at g s).stage (body f) w h

pub told_beside : ToldBeside
told_beside =
    record { making = λ n f c. made n f c (new_of n f c).making refl; call = λ k g c. answered k g c (step g c k).told.answer refl }
  where
    made : (n : List ℕ) (f c : ℕ) (m : Check) → (new_of n f c).making ≡ m → Beside (making_why m)
    made n f c (Ok _) e = number_alone 0 refl
    made n f c (Err r) e = beside r (λ w q. (f, carried_on.making n f c w (e ∙ ap Err q)))

    answered : (k : Cookies) (g : Endpoint) (c : Call) (a : Result Answer Refusal) → (step g c k).told.answer ≡ a → Beside (numbers_of a).why
    answered k g c (Err r) e = beside r (λ w q. flags_in g c w (carried_on.call k g c w (e ∙ ap Err q)))
    answered k g c (Ok (Begun s n)) e = number_alone 0 refl
    answered k g c (Ok (Arrived s)) e = number_alone 0 refl
    answered k g c (Ok Closed) e = number_alone 0 refl
    answered k g c (Ok (Answered st o n)) e = number_alone 0 refl
