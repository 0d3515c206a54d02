-- Laws of the calls' definitions, as the code comes to them: a check that refuses or passes, and what is due. Assumes nothing.
use Rattle.std.specs.Prelude.{None, Ok, Err}
use Rattle.names.specs.Held.{name_bytes}
use Prim.Native.Nat.{ℕ, ◌≤◌, ◌<◌}
use mathlib.Core.Path.{◌≡◌, refl, sym, ◌∙◌, ap, ap₂, subst}
use mathlib.Core.Bool.{Bool, true, false, true≢false, cond, not, ◌&&◌, ◌||◌}
use mathlib.Core.List.{List, [], ◌∷◌, ◌++◌}
use native.Mathlib.Omega.{arith}
use lib.ListN.{length}
use lib.Dec.{leb, ltb, eqb}
use borrow.Author.Tests.{not-false, ltb-true, ltb-false, leb-true, leb-false, eqb-true}
use Rattle.wire.specs.Run.{part, same_bytes, order}
use Rattle.wire.specs.Output.{written}
use Rattle.wire.specs.Frame.{is_frame, body}
use Rattle.wire.specs.Layout.{extent}
use Rattle.wire.specs.Number.{be_at}
use Rattle.wire.proofs.OutputLaws.{written_none}
use Rattle.wire.proofs.RunLaws.{and_left, and_right}
use Rattle.names.specs.Full.{full_name}
use Rattle.handshake_rules.specs.declared.refusal.Refusal.{Refusal}
use Rattle.handshake_rules.specs.declared.refusal.Refusal.TheVariants.{OutputTooShort, SlotNotTaken, AlreadyConnected, BadCookie, NotAFrame, WrongDigest}
use Rattle.handshake_rules.specs.declared.endpoint.Stage.{Stage}
use Rattle.handshake_rules.specs.declared.endpoint.Stage.TheVariants.{AwaitsReply, AwaitsChallenge, AwaitsAck, Connected}
use Rattle.handshake_rules.specs.declared.endpoint.Slot.{Slot}
use Rattle.handshake_rules.specs.State.{Endpoint}
use Rattle.handshake_rules.specs.State.{Told}
use Rattle.handshake_rules.specs.declared.endpoint.Sought.TheVariants.{StartedTo, AcceptedFrom, ConnectedTo}
use Rattle.handshake_rules.specs.declared.accepting.Greeting.TheVariants.{NotAllowed, Nok, OkSimultaneous, Alive}
use Rattle.handshake_rules.specs.declared.accepting.Greeting.TheVariants as greet
use Rattle.handshake_rules.specs.Refusals.{message_fate, is_free, ◌given-if◌, checked, unless, Check}
use Rattle.handshake_rules.specs.Endpoint.{kind, idle, connected, slot_at, lowest, lowest_free, is_slot}
use Rattle.handshake_rules.specs.Messages.{name_l, challenge_l, name_name, ack_digest}
use Rattle.handshake_rules.specs.Forms.{form_tests, status_form, name_form, challenge_form, exact_form}
use Rattle.handshake_rules.specs.Cookie.{Cookies, checking, writing, digest_of, allowed, fit}
use Rattle.handshake_rules.specs.Plans.{Done, Act, proven, fails, Expected, stage_plan, judged, refused, answered, settled, render, finished, concluded, moved, plain}
use Rattle.handshake_rules.specs.Accepting.{greeting, contest, is_greater}
use Rattle.handshake_rules.specs.Connecting.{expect_ack}
use Rattle.handshake_rules.specs.Calls.{room, start_tests, start_of, begun, silent, kept, expected, awaited, early_tests, frame_tests, plan, on_frame, message_of}
use Rattle.handshake_rules.proofs.CheckLaws.{not_not, and_then, checked_append, none_holds, unless_elim}
use Rattle.handshake_rules.proofs.MessageLaws.{full_short}
use Rattle.handshake_rules.proofs.SlotLaws.{spared_kept}

-- a call that comes to d, which is o
pub settle : (d o : Done) → d ≡ o → (out : List ℕ) {r : Told} {next : List ℕ} → r ≡ o.told → next ≡ written o.bytes out
    → (r ≡ d.told) × (next ≡ written d.bytes out)
settle d o e out a b = (rw e a, rw e b)

-- the same, whatever the cookie
pub settle_any : (d o : List ℕ → Done) → ((k : List ℕ) → d k ≡ o k) → (out : List ℕ) {r : Told} {next : List ℕ}
    → ((k : List ℕ) → r ≡ (o k).told) → ((k : List ℕ) → next ≡ written (o k).bytes out)
    → ((k : List ℕ) → r ≡ (d k).told) × ((k : List ℕ) → next ≡ written (d k).bytes out)
settle_any d o e out a b = (λ k. rw (e k) (a k), λ k. rw (e k) (b k))

-- ---- start

module _ (g : Endpoint) (n : List ℕ) (size : ℕ) where
  pub start_refused : (r : Refusal) → checked (start_tests g n size) ≡ Err r → start_of g n size ≡ silent (kept g r)
  unfolding start_of
  start_refused r e = rw e

  pub start_begun : checked (start_tests g n size) ≡ Ok tt → start_of g n size ≡ begun g n
  unfolding start_of
  start_begun e = rw e

  pub may_start : checked (start_tests g n size) ≡ Ok tt → (lowest_free g < 32) × (length n ≤ 255) × (room ≤ size)
  may_start e =
      let h = none_holds (start_tests g n size) e in
      (ltb-true (lowest_free g) 32 (not-false _ h.1.1.1.0), full_short n (not-false _ h.1.0), ltb-false size room h.0)

-- ---- a stage

module _ (i w : List ℕ) (g : Endpoint) (s : ℕ) (e : Expected) where
  pub stage_refused : (r : Refusal) → checked (form_tests e.form) ≡ Err r → concluded i w g s (stage_plan e) ≡ refused g s r
  unfolding settled finished
  stage_refused r h = ap (λ (x : Check). concluded i w g s (unless fails e.rule x)) h

  pub stage_passed : checked (form_tests e.form) ≡ Ok tt → concluded i w g s (stage_plan e) ≡ concluded i w g s e.rule
  stage_passed h = ap (λ (x : Check). concluded i w g s (unless fails e.rule x)) h

-- what a form refuses is told so, and nothing is written: with the cookie at hand, and with any
module _ (g : Endpoint) (s : ℕ) (e : Expected) {x : Check} (h : x ≡ checked (form_tests e.form)) {r : Refusal} (i : x ≡ Err r) {t : Told} (q : t ≡ (refused g s r).told) (out : List ℕ) where
  pub form_refused : (k : List ℕ) → (t ≡ (concluded k k g s (stage_plan e)).told) × (out ≡ written (concluded k k g s (stage_plan e)).bytes out)
  form_refused k = settle (concluded k k g s (stage_plan e)) (refused g s r) (stage_refused k k g s e r (sym h ∙ i)) out q (sym (written_none out))

  pub form_refused_alike : ((k : List ℕ) → t ≡ (concluded k k g s (stage_plan e)).told)
      × ((k : List ℕ) → out ≡ written (concluded k k g s (stage_plan e)).bytes out)
  form_refused_alike = (λ k. (form_refused k).0, λ k. (form_refused k).1)

-- the digest check
module _ (i w : List ℕ) (g : Endpoint) (s c : ℕ) (d : List ℕ) (a : Act) where
  pub judged_right : same_bytes d (digest_of c i) ≡ true
      → concluded i w g s (proven c d a) ≡ answered g s a.slot a.other (render w a.writes)
  unfolding settled finished
  judged_right h = ap (λ (x : Bool). finished w g s (judged x a)) h

  pub judged_wrong : same_bytes d (digest_of c i) ≡ false → concluded i w g s (proven c d a) ≡ refused g s WrongDigest
  unfolding settled finished
  judged_wrong h = ap (λ (x : Bool). finished w g s (judged x a)) h

-- the same, of a part p of the message and the slot's record t
module _ (i w : List ℕ) (g : Endpoint) (s : ℕ) (a : Act) {sl t : Slot} {d p : List ℕ} (q : p ≡ d) (z : t ≡ sl) {v : Bool}
    (h : v ≡ same_bytes p (digest_of t.challenge i)) where
  verdict : same_bytes d (digest_of sl.challenge i) ≡ v
  verdict = sym (h ∙ ap₂ (λ (y : List ℕ) (u : Slot). same_bytes y (digest_of u.challenge i)) q z)

  pub proven_right : v ≡ true → concluded i w g s (proven sl.challenge d a) ≡ answered g s a.slot a.other (render w a.writes)
  unfolding settled finished
  proven_right n = ap (λ (x : Bool). finished w g s (judged x a)) (verdict ∙ n)

  pub proven_wrong : v ≡ false → concluded i w g s (proven sl.challenge d a) ≡ refused g s WrongDigest
  unfolding settled finished
  proven_wrong n = ap (λ (x : Bool). finished w g s (judged x a)) (verdict ∙ n)

-- what a check that passed has shown
pub name_passed : (b : List ℕ) → checked (form_tests (name_form b)) ≡ Ok tt → (extent name_l b ≤ length b) × (full_name (name_name b) ≡ true)
name_passed b e =
    let h = none_holds (form_tests (name_form b)) e in
    (leb-true (extent name_l b) (length b) (not-false _ h.1.0), not-false _ h.1.1.0)

pub status_passed : (b : List ℕ) → checked (form_tests (status_form b)) ≡ Ok tt → 1 ≤ length b
unfolding be_at part
status_passed [] e = absurd (true≢false (none_holds (form_tests (status_form [])) e).0)
status_passed (x ∷ b) e = omega arith

pub challenge_passed : (p b : List ℕ) → checked (form_tests (challenge_form p b)) ≡ Ok tt → extent challenge_l b ≤ length b
challenge_passed p b e =
    let h = none_holds (form_tests (challenge_form p b)) e in leb-true (extent challenge_l b) (length b) (not-false _ h.1.0)

pub exact_passed : (t n : ℕ) (b : List ℕ) → checked (form_tests (exact_form t n b)) ≡ Ok tt → length b ≡ n
exact_passed t n b e = let h = none_holds (form_tests (exact_form t n b)) e in eqb-true (length b) n (not_not _ h.1.0)

-- our attempt's slot is one of the 32
attempt_of : (a b c d x : Bool) (m j : ℕ) → cond a NotAllowed (cond b Nok (cond c (contest x m) (cond d Alive greet.Ok))) ≡ OkSimultaneous j → (c ≡ true) × (m ≡ j)
attempt_of true b c d x m j e = let z : ◌≡◌ {A = ℕ} 0 1 = cc in absurd (omega arith)
attempt_of false true c d x m j e = let z : ◌≡◌ {A = ℕ} 0 1 = cc in absurd (omega arith)
attempt_of false false true d true m j e = let q : m ≡ j = cc in (refl, q)
attempt_of false false true d false m j e = let z : ◌≡◌ {A = ℕ} 0 1 = cc in absurd (omega arith)
attempt_of false false false true x m j e = let z : ◌≡◌ {A = ℕ} 0 1 = cc in absurd (omega arith)
attempt_of false false false false x m j e = let z : ◌≡◌ {A = ℕ} 0 1 = cc in absurd (omega arith)

pub attempt_at : (g : Endpoint) (n : List ℕ) (j : ℕ) → greeting g n ≡ OkSimultaneous j → (j < 32) × (lowest StartedTo n g ≡ j)
unfolding greeting
attempt_at g n j e =
    let own = name_bytes g.name in
    let h =
    attempt_of (same_bytes own n) (is_slot (lowest AcceptedFrom n g)) (is_slot (lowest StartedTo n g)) (is_slot (lowest ConnectedTo n g)) (is_greater (order n own))
    (lowest StartedTo n g) j e in
    (omega (arith, h.1, ltb-true (lowest StartedTo n g) 32 h.0), h.1)

-- an acknowledgement is answered by nothing
pub ack_silent : (i w : List ℕ) (g : Endpoint) (s : ℕ) (sl : Slot) (b : List ℕ) → (concluded i w g s (stage_plan (expect_ack sl b))).bytes ≡ []
unfolding settled finished render
ack_silent i w g s sl b =
    unless_elim (λ p. (concluded i w g s p).bytes ≡ []) fails (expect_ack sl b).rule (form_tests (expect_ack sl b).form) (λ r. refl)
    (λ h. by (same_bytes (ack_digest b) (digest_of sl.challenge i)))
  where
    by : (x : Bool) → (finished w g s (judged x (record { slot = moved sl Connected; other = None; writes = plain [] }))).bytes ≡ []
    by true = refl
    by false = refl

-- ---- a cookie that is fit, where one is needed

allowed_short : (k : List ℕ) → (allowed k && true) ≡ true → length k ≤ 255
unfolding allowed
allowed_short k e = leb-true (length k) 255 (and_right (leb 1 (length k)) _ (and_left _ true e))

pub fit_reply : (k : List ℕ) → fit AwaitsReply k k ≡ true → length k ≤ 255
unfolding fit
fit_reply k e = allowed_short k e

pub fit_challenge : (k : List ℕ) → fit AwaitsChallenge k k ≡ true → length k ≤ 255
unfolding fit
fit_challenge k e = allowed_short k e

pub fit_ack : (k : List ℕ) → fit AwaitsAck k k ≡ true → length k ≤ 255
unfolding fit
fit_ack k e = allowed_short k e

-- ---- message

pub early_passed : (s : ℕ) (st : Stage) (size : ℕ) (x : Bool) → checked (early_tests s st size x) ≡ Ok tt → (s < 32) × (x ≡ true) × (room ≤ size)
early_passed s st size x e =
    let h = none_holds (early_tests s st size x) e in
    (leb-false 32 s (or_left (leb 32 s) _ h.1.0), not_not x h.1.1.1.0, ltb-false size room h.0)
  where
    or_left : (a b : Bool) → (a || b) ≡ false → a ≡ false
    or_left true b e = e
    or_left false b e = refl

-- what is refused before the bytes are looked at keeps everything
pub early_keeps : (s : ℕ) (st : Stage) (size : ℕ) (x : Bool) (r : Refusal) → checked (early_tests s st size x) ≡ Err r → is_free (message_fate r) ≡ false
early_keeps s st size x r = by (ltb size room) (leb 32 s || eqb (kind st) idle) (eqb (kind st) connected) (not x)
  where
    by : (a b c d : Bool) → checked (OutputTooShort given-if a ∷ SlotNotTaken given-if b ∷ AlreadyConnected given-if c ∷ BadCookie given-if d ∷ []) ≡ Err r
        → is_free (message_fate r) ≡ false
    by true b c d e = let q : OutputTooShort ≡ r = cc in subst (λ y. is_free (message_fate y) ≡ false) q refl
    by false true c d e = let q : SlotNotTaken ≡ r = cc in subst (λ y. is_free (message_fate y) ≡ false) q refl
    by false false true d e = let q : AlreadyConnected ≡ r = cc in subst (λ y. is_free (message_fate y) ≡ false) q refl
    by false false false true e = let q : BadCookie ≡ r = cc in subst (λ y. is_free (message_fate y) ≡ false) q refl
    by false false false false e = let z : ◌≡◌ {A = ℕ} 0 1 = cc in absurd (omega arith)

module _ (k : Cookies) (g : Endpoint) (s : ℕ) (f : List ℕ) (c size : ℕ) where
  abbrev st : Stage
  st = (slot_at g s).stage

  abbrev early : Check
  early = checked (early_tests s st size (fit st (checking k) (writing k)))

  abbrev late : Check
  late = checked (frame_tests f ++ form_tests (awaited g s f c).form)

  both : message_of k g s f c size ≡ concluded (checking k) (writing k) g s (unless fails (awaited g s f c).rule (and_then early late))
  unfolding message_of plan
  both =
      ap (λ (x : Check). concluded (checking k) (writing k) g s (unless fails (awaited g s f c).rule x))
      (checked_append (early_tests s st size (fit st (checking k) (writing k))) (frame_tests f ++ form_tests (awaited g s f c).form))

  pub message_refused : (r : Refusal) → early ≡ Err r → message_of k g s f c size ≡ refused g s r
  unfolding settled finished
  message_refused r e =
      both ∙ ap (λ (x : Check). concluded (checking k) (writing k) g s (unless fails (awaited g s f c).rule (and_then x late))) e

  pub message_kept : (r : Refusal) → early ≡ Err r → message_of k g s f c size ≡ silent (kept g r)
  message_kept r e =
      message_refused r e
      ∙ ap (λ (x : Endpoint). silent (kept x r)) (spared_kept g s r (early_keeps s st size (fit st (checking k) (writing k)) r e))

  pub message_framed : early ≡ Ok tt → message_of k g s f c size ≡ on_frame (checking k) (writing k) g s st f c
  unfolding on_frame
  message_framed e =
      both ∙ ap (λ (x : Check). concluded (checking k) (writing k) g s (unless fails (awaited g s f c).rule (and_then x late))) e

module _ (i w : List ℕ) (g : Endpoint) (s : ℕ) (st : Stage) (f : List ℕ) (c : ℕ) where
  pub framed_cut : is_frame f ≡ false → on_frame i w g s st f c ≡ refused g s NotAFrame
  unfolding on_frame settled finished
  framed_cut e = rw e

  pub framed_stage : is_frame f ≡ true → on_frame i w g s st f c ≡ concluded i w g s (stage_plan (expected g (slot_at g s) c (body f) st))
  unfolding on_frame
  framed_stage e = rw e
