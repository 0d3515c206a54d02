-- Each number is given exactly when its test is the first that holds (specs/NumberClaims). Assumes nothing.
use Rattle.std.specs.Prelude.{Ok, Err, Result}
use Prim.Native.Nat.{ℕ, zero, suc}
use mathlib.Core.Path.{◌≡◌, refl, sym, ◌∙◌, ap, subst}
use mathlib.Core.Bool.{Bool, true, false, true≢false, cond, not, ◌||◌}
use mathlib.Core.List.{List, [], ◌∷◌}
use native.Mathlib.Omega.{arith}
use lib.ListN.{get_or}
use Rattle.wire.specs.Run.{same_bytes}
use Rattle.wire.specs.Frame.{body}
use Rattle.wire.proofs.RunLaws.{same_decides}
use Rattle.handshake_rules.specs.declared.refusal.Refusal.{Refusal}
use Rattle.handshake_rules.specs.declared.refusal.Refusal.TheVariants.{OutputTooShort, SlotNotTaken, NotAFrame, UnknownTag, BadLength, BadName, BadFlags, AlreadyConnected, BadCookie, PeerTaken, NoFreeSlot, UnknownStatus, WrongDigest, Declined}
use Rattle.handshake_rules.specs.declared.refusal.Why.{Why}
use Rattle.handshake_rules.specs.declared.flags.FlagFlaw.{FlagFlaw}
use Rattle.handshake_rules.specs.declared.flags.FlagFlaw.TheVariants.{Missing, NameMe}
use Rattle.handshake_rules.specs.declared.endpoint.Stage.{Stage}
use Rattle.handshake_rules.specs.declared.endpoint.Stage.TheVariants.{Free, AwaitsName, AwaitsAlive, AwaitsReply, AwaitsStatus, AwaitsChallenge, AwaitsAck, Connected}
use Rattle.handshake_rules.specs.declared.endpoint.Slot.{Slot}
use Rattle.handshake_rules.specs.State.{Endpoint}
use Rattle.handshake_rules.specs.declared.endpoint.Answer.{Answer}
use Rattle.handshake_rules.specs.declared.endpoint.Answer.TheVariants.{Begun, Arrived, Closed, Answered}
use Rattle.handshake_rules.specs.declared.accepting.Greeting.{Greeting}
use Rattle.handshake_rules.specs.declared.accepting.Greeting.TheVariants.{NotAllowed, Nok, OkSimultaneous, Alive}
use Rattle.handshake_rules.specs.declared.accepting.Greeting.TheVariants as greet
use Rattle.handshake_rules.specs.Refusals.{Test, ◌given-if◌, checked, unless, Check}
use Rattle.handshake_rules.specs.Flags.{bit, required, name_me, missing, flag_test, flaw_count, flaw_bit}
use Rattle.handshake_rules.specs.Endpoint.{fresh, freed, slot_at}
use Rattle.handshake_rules.specs.Messages.{name_name, name_flags, name_creation, status_word, reply_digest, ack_digest, ok, ok_simultaneous, nok, not_allowed, alive, true_word, false_word}
use Rattle.handshake_rules.specs.Forms.{form_tests}
use Rattle.handshake_rules.specs.Cookie.{Cookies, checking, writing, fit, digest_of}
use Rattle.handshake_rules.specs.Plans.{Act, Outcome, stop, go, sure, fails, judged, settled, finished, concluded}
use Rattle.handshake_rules.specs.Accepting.{greeting, on_name}
use Rattle.handshake_rules.specs.Connecting.{reaction, on_status}
use Rattle.handshake_rules.specs.Calls.{new_tests, not_made, new_of, start_tests, begun, silent, kept, start_of, arrive_tests, arrived, arrive_of, close_tests, close_of, expected, awaited, message_tests, plan, message_of}
use Rattle.handshake_rules.specs.Answers.{making_why, numbers_of}
use Rattle.handshake_rules.specs.NumberClaims.{check_why, Givable, NumbersApart, is_one_of, rule_tests, all_tests, GivenExactly}
use Rattle.handshake_rules.specs.Claims.{NoneHolds}
use Rattle.handshake_rules.proofs.FlagLaws.{counts}
use Rattle.handshake_rules.proofs.CheckLaws.{and_then, checked_append, none_holds}

-- an outcome that is refused, or not
abbrev stop_of : Outcome → Check
stop_of (stop r) = Err r
stop_of (go a) = Ok tt

module _ (k : List ℕ) (g : Endpoint) (sl : Slot) (b : List ℕ) (c : ℕ) where
  on_name_lem : (n : List ℕ) (f m : ℕ) (x : Greeting) → stop_of (settled k (on_name g n f m c x)) ≡ Ok tt
  unfolding settled
  on_name_lem n f m NotAllowed = refl
  on_name_lem n f m Nok = refl
  on_name_lem n f m (OkSimultaneous mine) = refl
  on_name_lem n f m Alive = refl
  on_name_lem n f m greet.Ok = refl

  -- one of the three words by which we go on, or none of them
  on_status_lem : (w : List ℕ) → stop_of (settled k (on_status sl (reaction w)))
      ≡ checked (Declined given-if is_one_of (nok ∷ not_allowed ∷ []) w ∷ UnknownStatus given-if not (is_one_of (ok ∷ ok_simultaneous ∷ alive ∷ []) w) ∷ [])
  unfolding settled reaction same_bytes
  on_status_lem w = by (same_bytes w ok) (same_bytes w ok_simultaneous) (same_bytes w alive) refl refl refl
    where
      Says : List ℕ → Type 0
      Says w =
          stop_of (settled k (on_status sl (reaction w)))
          ≡ checked (Declined given-if is_one_of (nok ∷ not_allowed ∷ []) w ∷ UnknownStatus given-if not (is_one_of (ok ∷ ok_simultaneous ∷ alive ∷ []) w) ∷ [])

      known : (v : List ℕ) → same_bytes w v ≡ true → Says v → Says w
      known v e = subst Says (sym ((same_decides w v).0 e))

      declined : (d e : Bool) → same_bytes w nok ≡ d → same_bytes w not_allowed ≡ e → same_bytes w ok ≡ false → same_bytes w ok_simultaneous ≡ false
          → same_bytes w alive ≡ false → Says w
      declined true e p q x y z = rw (p, x, y, z)
      declined false true p q x y z = rw (p, q, x, y, z)
      declined false false p q x y z = rw (p, q, x, y, z)

      by : (x y z : Bool) → same_bytes w ok ≡ x → same_bytes w ok_simultaneous ≡ y → same_bytes w alive ≡ z → Says w
      by true y z p q r = known ok p refl
      by false true z p q r = known ok_simultaneous q refl
      by false false true p q r = known alive r refl
      by false false false p q r = declined (same_bytes w nok) (same_bytes w not_allowed) refl refl p q r

  two_words : (p q : Act) (x y : Bool)
      → stop_of (settled k (cond x (sure (go p)) (cond y (sure (go q)) (fails UnknownStatus)))) ≡ checked (UnknownStatus given-if not (x || (y || false)) ∷ [])
  unfolding settled
  two_words p q true y = refl
  two_words p q false true = refl
  two_words p q false false = refl

  judgement : (p : Act) (x : Bool) → stop_of (judged x p) ≡ checked (WrongDigest given-if not x ∷ [])
  judgement p true = refl
  judgement p false = refl

  rule : (st : Stage) → sl.stage ≡ st → NoneHolds (form_tests (expected g sl c b st).form)
      → stop_of (settled k (expected g sl c b st).rule) ≡ checked (rule_tests st sl b k)
  unfolding expected settled
  rule Free e h = absurd (true≢false h.0)
  rule AwaitsName e h = on_name_lem (name_name b) (name_flags b) (name_creation b) (greeting g (name_name b))
  rule AwaitsAlive e h = two_words _ _ (same_bytes (status_word b) true_word) (same_bytes (status_word b) false_word)
  rule AwaitsReply e h = judgement _ (same_bytes (reply_digest b) (digest_of sl.challenge k))
  rule AwaitsStatus e h = on_status_lem (status_word b)
  rule AwaitsChallenge e h = refl
  rule AwaitsAck e h = judgement _ (same_bytes (ack_digest b) (digest_of sl.challenge k))
  rule Connected e h = absurd (true≢false h.0)

-- ---- the calls

-- what a call is refused with
abbrev pub refused_by : Result Answer Refusal → Check
refused_by (Err r) = Err r
refused_by (Ok a) = Ok tt

seen : (a : Result Answer Refusal) → (numbers_of a).why ≡ check_why (refused_by a)
seen (Err r) = refl
seen (Ok (Begun s n)) = refl
seen (Ok (Arrived s)) = refl
seen (Ok Closed) = refl
seen (Ok (Answered st o n)) = refl

made_seen : (m : Check) → making_why m ≡ check_why m
made_seen (Ok _) = refl
made_seen (Err r) = refl

finished_check : (w : List ℕ) (g : Endpoint) (s : ℕ) (o : Outcome) → refused_by (finished w g s o).told.answer ≡ stop_of o
unfolding finished
finished_check w g s (stop r) = refl
finished_check w g s (go a) = refl

pub made_check : (n : List ℕ) (f c : ℕ) → (new_of n f c).making ≡ checked (new_tests n f)
unfolding new_of
made_check n f c = by (checked (new_tests n f))
  where
    by : (x : Check) → (unless not_made (record { making = Ok tt; endpoint = fresh n f c }) x).making ≡ x
    by (Ok _) = refl
    by (Err r) = refl

pub start_check : (g : Endpoint) (n : List ℕ) (size : ℕ) → refused_by (start_of g n size).told.answer ≡ checked (start_tests g n size)
unfolding start_of
start_check g n size = by (checked (start_tests g n size))
  where
    by : (x : Check) → refused_by (unless (λ r. silent (kept g r)) (begun g n) x).told.answer ≡ x
    by (Ok _) = refl
    by (Err r) = refl

pub arrive_check : (g : Endpoint) → refused_by (arrive_of g).answer ≡ checked (arrive_tests g)
unfolding arrive_of
arrive_check g = by (checked (arrive_tests g))
  where
    by : (x : Check) → refused_by (unless (kept g) (arrived g) x).answer ≡ x
    by (Ok _) = refl
    by (Err r) = refl

pub close_check : (g : Endpoint) (s : ℕ) → refused_by (close_of g s).answer ≡ checked (close_tests g s)
unfolding close_of
close_check g s = by (checked (close_tests g s))
  where
    by : (x : Check) → refused_by (unless (kept g) (record { answer = Ok Closed; endpoint = freed g s }) x).answer ≡ x
    by (Ok _) = refl
    by (Err r) = refl

pub message_check : (k : Cookies) (g : Endpoint) (s : ℕ) (f : List ℕ) (c size : ℕ)
    → refused_by (message_of k g s f c size).told.answer ≡ checked (all_tests k g s f c size)
unfolding message_of plan settled finished
message_check k g s f c size = by (checked tests) refl ∙ sym (checked_append tests rules)
  where
    tests : List Test
    tests = message_tests g s size (fit (slot_at g s).stage (checking k) (writing k)) f (awaited g s f c)

    rules : List Test
    rules = rule_tests (slot_at g s).stage (slot_at g s) (body f) (checking k)

    ends : Check → Check
    ends x = refused_by (concluded (checking k) (writing k) g s (unless fails (awaited g s f c).rule x)).told.answer

    by : (x : Check) → checked tests ≡ x → ends (checked tests) ≡ and_then (checked tests) (checked rules)
    by (Ok _) e =
        ap ends e ∙ finished_check (writing k) g s (settled (checking k) (awaited g s f c).rule)
        ∙ rule (checking k) g (slot_at g s) (body f) c (slot_at g s).stage refl (none_holds tests e).1.1.1.1.1
        ∙ ap (λ (x : Check). and_then x (checked rules)) (sym e)
    by (Err r) e = ap ends e ∙ ap (λ (x : Check). and_then x (checked rules)) (sym e)

pub given_exactly : GivenExactly
given_exactly =
    record {
      making = λ n f c. made_seen (new_of n f c).making ∙ ap check_why (made_check n f c);
      start = λ g n size. seen (start_of g n size).told.answer ∙ ap check_why (start_check g n size);
      arrive = λ g. seen (arrive_of g).answer ∙ ap check_why (arrive_check g);
      close = λ g s. seen (close_of g s).answer ∙ ap check_why (close_check g s);
      message = λ k g s f c size. seen (message_of k g s f c size).told.answer ∙ ap check_why (message_check k g s f c size);
    }

-- ---- numbers apart

-- beside 9: what was wrong with the flags
abbrev flaw : ℕ → ℕ → FlagFlaw
flaw zero lowest = NameMe
flaw (suc n) lowest = Missing (suc n) lowest

-- the refusals in the order of their numbers; 7 and 8 are the mapper's
abbrev by_number : FlagFlaw → List Check
by_number w =
    Ok tt ∷ Err OutputTooShort ∷ Err SlotNotTaken ∷ Err NotAFrame ∷ Err UnknownTag ∷ Err BadLength ∷ Err BadName ∷ Ok tt ∷ Ok tt
    ∷ Err (BadFlags w) ∷ Err AlreadyConnected ∷ Err BadCookie ∷ Err PeerTaken ∷ Err NoFreeSlot ∷ Err UnknownStatus
    ∷ Err WrongDigest ∷ Err Declined ∷ []

abbrev numbered : Why → Check
numbered y = get_or (by_number (flaw y.missing y.lowest)) y.number (Ok tt)

-- the test tells at least one bit where it tells of missing ones
flaw_back : (f : ℕ) (w : FlagFlaw) → flag_test f ≡ Err w → flaw (flaw_count w) (flaw_bit w) ≡ w
unfolding flag_test
flaw_back f NameMe e = refl
flaw_back f (Missing (suc n) i) e = refl
flaw_back f (Missing zero i) e = absurd (omega (arith, (counts (missing required f) (bit name_me f) 0 i e).0))

back : (x : Check) → Givable x → numbered (check_why x) ≡ x
back (Ok _) g = refl
back (Err OutputTooShort) g = refl
back (Err SlotNotTaken) g = refl
back (Err NotAFrame) g = refl
back (Err UnknownTag) g = refl
back (Err BadLength) g = refl
back (Err BadName) g = refl
back (Err (BadFlags w)) g = ap (λ (v : FlagFlaw). Err (BadFlags v)) (flaw_back (g w refl).0 w (g w refl).1)
back (Err AlreadyConnected) g = refl
back (Err BadCookie) g = refl
back (Err PeerTaken) g = refl
back (Err NoFreeSlot) g = refl
back (Err UnknownStatus) g = refl
back (Err WrongDigest) g = refl
back (Err Declined) g = refl

pub numbers_apart : NumbersApart
numbers_apart x y p q e = sym (back x p) ∙ ap numbered e ∙ back y q
