-- What is proved of the flag test (02, P3), and of what refusal 9 carries (proofs/FlagLaws, proofs/Nine).
use Rattle.std.specs.Prelude.{ℕ, zero, suc, ◌+◌, ◌≤◌, ◌<◌, ◌≡◌, Bool, true, false, cond, ◌&&◌, ◌||◌, not, List, [], ◌∷◌, eqb, Ok, Err}
use Rattle.wire.specs.Frame.{body}
use Rattle.handshake_rules.specs.declared.flags.FlagFlaw.{FlagFlaw}
use Rattle.handshake_rules.specs.declared.flags.FlagFlaw.TheVariants.{Missing, NameMe}
use Rattle.handshake_rules.specs.declared.refusal.Why.{Why}
use Rattle.handshake_rules.specs.declared.refusal.Refusal.TheVariants.{BadFlags}
use Rattle.handshake_rules.specs.declared.endpoint.Stage.{Stage}
use Rattle.handshake_rules.specs.declared.endpoint.Stage.TheVariants.{Free, AwaitsName, AwaitsAlive, AwaitsReply, AwaitsStatus, AwaitsChallenge, AwaitsAck, Connected}
use Rattle.handshake_rules.specs.State.{Endpoint}
use Rattle.handshake_rules.specs.Refusals.{only}
use Rattle.handshake_rules.specs.Flags.{bit, required, name_me, good_flags, flag_test, FlagTest}
use Rattle.handshake_rules.specs.Endpoint.{slot_at}
use Rattle.handshake_rules.specs.Answers.{making_why, numbers_of}
use Rattle.handshake_rules.specs.Messages.{name_flags, challenge_flags}
use Rattle.handshake_rules.specs.Cookie.{Cookies}
use Rattle.handshake_rules.specs.Calls.{new_of}
use Rattle.handshake_rules.specs.Runs.{Call, Start, Arrive, Close, Message, step}

-- ---- the test

abbrev pub among : ℕ → List ℕ → Bool
among i [] = false
among i (j ∷ js) = eqb i j || among i js

abbrev pub Required : ℕ → Type 0
Required i = among i required ≡ true

-- how many of the bits below n are among those of the list, and clear
abbrev pub clear_below : List ℕ → ℕ → ℕ → ℕ
clear_below is zero f = 0
clear_below is (suc n) f = cond (among n is && not (bit n f)) 1 0 + clear_below is n f

-- "how many required bits are missing, and the lowest of them by its number"
pub record Lacks (f count lowest : ℕ) : Type 0 where
  pub counted : count ≡ clear_below required 64 f
  pub required : Required lowest
  pub clear : bit lowest f ≡ false
  pub first : (i : ℕ) → i < lowest → Required i → bit i f ≡ true

abbrev pub NoneMissing : ℕ → Type 0
NoneMissing f = (i : ℕ) → Required i → bit i f ≡ true

-- what an answer says of the flags that were tested; bit 33 is told only where none is missing: "missing bits are told first"
abbrev pub Says : ℕ → FlagTest → Type 0
Says f (Ok _) = NoneMissing f × (bit name_me f ≡ false)
Says f (Err NameMe) = NoneMissing f × (bit name_me f ≡ true)
Says f (Err (Missing count lowest)) = Lacks f count lowest

-- the test's answer says it, and no other answer does (FlagLaws.flags_tested, FlagLaws.one-answer)
abbrev pub FlagsTested : Type 0
FlagsTested = (f : ℕ) → Says f (flag_test f)

abbrev pub OneAnswer : Type 0
OneAnswer = (f : ℕ) (x y : FlagTest) → Says f x → Says f y → x ≡ y

-- flags are good exactly if the test says so (FlagLaws.good_exactly)
abbrev pub is_good : FlagTest → Bool
is_good (Ok _) = true
is_good (Err w) = false

abbrev pub GoodExactly : Type 0
GoodExactly = (f : ℕ) → good_flags f ≡ is_good (flag_test f)

-- ---- refusal 9

-- the flags that a message brings, tested
abbrev pub Brought : Stage → List ℕ → FlagFlaw → Type 0
Brought Free b w = ⊥
Brought AwaitsName b w = flag_test (name_flags b) ≡ Err w
Brought AwaitsAlive b w = ⊥
Brought AwaitsReply b w = ⊥
Brought AwaitsStatus b w = ⊥
Brought AwaitsChallenge b w = flag_test (challenge_flags b) ≡ Err w
Brought AwaitsAck b w = ⊥
Brought Connected b w = ⊥

-- "Every call that gives 9 carries this on": what it carries is the test's answer of the flags that the call brings, those of making, of a name
-- message or of a challenge. Any endpoint, any call; no other call gives 9 (Nine.carried)
abbrev pub BroughtIn : Endpoint → Call → FlagFlaw → Type 0
BroughtIn g (Start n out) w = ⊥
BroughtIn g Arrive w = ⊥
BroughtIn g (Close s) w = ⊥
BroughtIn g (Message s f c out) w = Brought (slot_at g s).stage (body f) w

pub record CarriedOn : Type 0 where
  pub making : (n : List ℕ) (f c : ℕ) (w : FlagFlaw) → (new_of n f c).making ≡ Err (BadFlags w) → flag_test f ≡ Err w
  pub call : (k : Cookies) (g : Endpoint) (c : Call) (w : FlagFlaw) → (step g c k).told.answer ≡ Err (BadFlags w) → BroughtIn g c w

-- ---- what stands beside a number

-- with 9 how many of the five are missing and the lowest, or 0 and 33; with every other number, and where nothing is refused, 0 and 0
pub data Beside : Why → Type 0 where
  some_missing : (count lowest : ℕ) → 1 ≤ count → count ≤ 5 → Required lowest → Beside (record { number = 9; missing = count; lowest = lowest })
  name_me_lem : Beside (record { number = 9; missing = 0; lowest = 33 })
  alone : (number : ℕ) → (number ≡ 9 → ⊥) → Beside (only number)

-- any endpoint, any call (Nine.told_beside)
pub record ToldBeside : Type 0 where
  pub making : (n : List ℕ) (f c : ℕ) → Beside (making_why (new_of n f c).making)
  pub call : (k : Cookies) (g : Endpoint) (c : Call) → Beside (numbers_of (step g c k).told.answer).why
