-- "Given exactly when": a call is refused with the number of the first test that holds, in 01's order, and answered if none does (proofs/Numbers). One
-- equation for each call; for a message the list goes on with the tests of the stage's rule: 14, 15 and 16.
use Rattle.std.specs.Prelude.{ℕ, ◌≡◌, Bool, false, not, ◌||◌, List, [], ◌∷◌, ◌++◌, Ok, Err}
use Rattle.wire.specs.Run.{same_bytes}
use Rattle.wire.specs.Frame.{body}
use Rattle.handshake_rules.specs.declared.refusal.Why.{Why}
use Rattle.handshake_rules.specs.declared.refusal.Refusal.TheVariants.{BadFlags, UnknownStatus, WrongDigest, Declined}
use Rattle.handshake_rules.specs.declared.flags.FlagFlaw.{FlagFlaw}
use Rattle.handshake_rules.specs.declared.endpoint.Stage.{Stage}
use Rattle.handshake_rules.specs.declared.endpoint.Stage.TheVariants.{Free, AwaitsName, AwaitsAlive, AwaitsReply, AwaitsStatus, AwaitsChallenge, AwaitsAck, Connected}
use Rattle.handshake_rules.specs.declared.endpoint.Slot.{Slot}
use Rattle.handshake_rules.specs.State.{Endpoint}
use Rattle.handshake_rules.specs.Refusals.{why_of, Test, ◌given-if◌, checked, Check}
use Rattle.handshake_rules.specs.Answers.{unrefused, making_why, numbers_of}
use Rattle.handshake_rules.specs.Flags.{flag_test}
use Rattle.handshake_rules.specs.Endpoint.{slot_at}
use Rattle.handshake_rules.specs.Messages.{status_word, reply_digest, ack_digest, ok, ok_simultaneous, nok, not_allowed, alive, true_word, false_word}
use Rattle.handshake_rules.specs.Cookie.{Cookies, checking, writing, fit, digest_of}
use Rattle.handshake_rules.specs.Calls.{new_tests, new_of, start_tests, start_of, arrive_tests, arrive_of, close_tests, close_of, awaited, message_tests, message_of}

-- what a caller sees of what a list of tests comes to
abbrev pub check_why : Check → Why
check_why (Ok _) = unrefused
check_why (Err r) = why_of r

-- a refusal that a call can give: 9 carries what the flag test answers of some flags (CarriedOn)
abbrev pub Givable : Check → Type 0
Givable (Ok _) = Unit
Givable (Err r) = (w : FlagFlaw) → r ≡ BadFlags w → (f : ℕ) × (flag_test f ≡ Err w)

-- each refusal has numbers of its own, and none has those of an answer (Numbers.numbers-apart)
abbrev pub NumbersApart : Type 0
NumbersApart = (x y : Check) → Givable x → Givable y → check_why x ≡ check_why y → x ≡ y

abbrev pub is_one_of : List (List ℕ) → List ℕ → Bool
is_one_of [] w = false
is_one_of (v ∷ vs) w = same_bytes w v || is_one_of vs w

-- the tests of the stage's rule; b: the body; k: the cookie that is checked with
abbrev pub rule_tests : Stage → Slot → List ℕ → List ℕ → List Test
rule_tests Free sl b k = []
rule_tests AwaitsName sl b k = []
rule_tests AwaitsAlive sl b k = UnknownStatus given-if not (is_one_of (true_word ∷ false_word ∷ []) (status_word b)) ∷ []
rule_tests AwaitsReply sl b k = WrongDigest given-if not (same_bytes (reply_digest b) (digest_of sl.challenge k)) ∷ []
rule_tests AwaitsStatus sl b k =
    Declined given-if is_one_of (nok ∷ not_allowed ∷ []) (status_word b)
    ∷ UnknownStatus given-if not (is_one_of (ok ∷ ok_simultaneous ∷ alive ∷ []) (status_word b)) ∷ []
rule_tests AwaitsChallenge sl b k = []
rule_tests AwaitsAck sl b k = WrongDigest given-if not (same_bytes (ack_digest b) (digest_of sl.challenge k)) ∷ []
rule_tests Connected sl b k = []

-- "Order, message: 1, 2, 10, 11, 3, 4, 5, 6, 9, then the stage's rule."
abbrev pub all_tests : Cookies → Endpoint → ℕ → List ℕ → ℕ → ℕ → List Test
all_tests k g s f c size =
    message_tests g s size (fit (slot_at g s).stage (checking k) (writing k)) f (awaited g s f c)
    ++ rule_tests (slot_at g s).stage (slot_at g s) (body f) (checking k)

-- (Numbers.given_exactly)
pub record GivenExactly : Type 0 where
  pub making : (n : List ℕ) (f c : ℕ) → making_why (new_of n f c).making ≡ check_why (checked (new_tests n f))
  pub start : (g : Endpoint) (n : List ℕ) (size : ℕ) → (numbers_of (start_of g n size).told.answer).why ≡ check_why (checked (start_tests g n size))
  pub arrive : (g : Endpoint) → (numbers_of (arrive_of g).answer).why ≡ check_why (checked (arrive_tests g))
  pub close : (g : Endpoint) (s : ℕ) → (numbers_of (close_of g s).answer).why ≡ check_why (checked (close_tests g s))
  pub message : (k : Cookies) (g : Endpoint) (s : ℕ) (f : List ℕ) (c size : ℕ)
      → (numbers_of (message_of k g s f c size).told.answer).why ≡ check_why (checked (all_tests k g s f c size))
