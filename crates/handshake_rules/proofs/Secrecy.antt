-- Demand 3: what two runs of one list of calls show does not depend on their cookies, up to the first digest check that passes in one and fails in
-- the other. Of a message a cookie decides three things: whether its length is allowed, the verdict of the digest check, and the digest written.
-- Assumes nothing.
use Prim.Native.Nat.{ℕ, ◌+◌, ◌-◌, ◌≤◌, ◌<◌}
use mathlib.Core.Path.{◌≡◌, refl, sym, ◌∙◌, ap, subst}
use mathlib.Core.Bool.{Bool, true, false, cond, ◌&&◌, not, true≢false}
use mathlib.Core.List.{List, [], ◌∷◌, ◌++◌, map}
use mathlib.Core.Option.{Option, none, some}
use native.Mathlib.Omega.{arith}
use lib.ListN.{length, get_or, drop, length-append, length-drop, get_or-append}
use Rattle.std.proofs.Math.Seq.{get_or-append_right}
use Rattle.std.proofs.Math.Bool.{and_self}
use lib.Dec.{leb, ltb}
use borrow.Author.Tests.{ltb-false, leb-false}
use Rattle.wire.specs.Run.{same_bytes}
use Rattle.wire.specs.Number.{be}
use Rattle.wire.specs.Output.{written}
use Rattle.handshake_rules.specs.declared.refusal.Refusal.TheVariants.{OutputTooShort, SlotNotTaken, AlreadyConnected, BadCookie}
use Rattle.handshake_rules.specs.State.{Endpoint}
use Rattle.handshake_rules.specs.State.{Made}
use Rattle.handshake_rules.specs.Refusals.{Test, ◌given-if◌, checked, unless}
use Rattle.handshake_rules.specs.Endpoint.{slot_at, is_a, connected, vacant}
use Rattle.handshake_rules.specs.Forms.{form_tests}
use Rattle.handshake_rules.specs.Cookie.{digest_of, Cookies, checking, writing, needed, allowed, every, fit}
use Rattle.handshake_rules.specs.Plans.{Writes, plain, reply, ack, Act, Outcome, stop, go, Plan, sure, proven, fails, judged, settled, render, finished}
use Rattle.handshake_rules.specs.Calls.{room, message_of, awaited, frame_tests, plan}
use Rattle.handshake_rules.specs.Runs.{Call, Start, Arrive, Close, Message, step, next, left, used, verdict, check_of, writes_of, writes, excepted, Given, Moment, moments, differ, splits, before_split, All, Alike, Same, Agree}
use Rattle.handshake_rules.specs.Claims.{Demand3, NoSecretKept}
use Rattle.handshake_rules.proofs.MessageLaws.{reply_head, ack_head}
use Rattle.handshake_rules.proofs.CookieLaws.{digest_sixteen}

-- ---- the bytes written

-- bytes apart from n to n + 16 do not depend on the sixteen bytes that stand there
around : (h d₁ d₂ out : List ℕ) (n i : ℕ) → length h ≡ n → length d₁ ≡ 16 → length d₂ ≡ 16 → (leb n i && ltb i (n + 16)) ≡ false
    → get_or (written (h ++ d₁) out) i 0 ≡ get_or (written (h ++ d₂) out) i 0
unfolding written
around h d₁ d₂ out n i hn h₁ h₂ e =
    ap (λ (m : ℕ). get_or ((h ++ d₁) ++ drop m out) i 0) l₁ ∙ cases (leb n i) (ltb i (n + 16)) refl refl e
    ∙ sym (ap (λ (m : ℕ). get_or ((h ++ d₂) ++ drop m out) i 0) l₂)
  where
    r : List ℕ
    r = drop (n + 16) out

    l₁ : length (h ++ d₁) ≡ n + 16
    l₁ = length-append h d₁ ∙ omega arith

    l₂ : length (h ++ d₂) ≡ n + 16
    l₂ = length-append h d₂ ∙ omega arith

    front : (d : List ℕ) → length d ≡ 16 → i < n → get_or ((h ++ d) ++ r) i 0 ≡ get_or h i 0
    front d hd lt =
        get_or-append (h ++ d) r 0 i (omega (arith, length-append h d)) ∙ get_or-append h d 0 i (omega arith)

    cases : (a b : Bool) → leb n i ≡ a → ltb i (n + 16) ≡ b → (a && b) ≡ false → get_or ((h ++ d₁) ++ r) i 0 ≡ get_or ((h ++ d₂) ++ r) i 0
    cases true true p q e = absurd (true≢false e)
    cases true false p q e =
        let ge : n + 16 ≤ i = ltb-false i (n + 16) q in
        get_or-append_right (h ++ d₁) r i 0 (omega (arith, l₁)) ∙ ap (λ (m : ℕ). get_or r (i - m) 0) (l₁ ∙ sym l₂) ∙ sym (get_or-append_right (h ++ d₂) r i 0 (omega (arith, l₂)))
    cases false b p q e = let lt : i < n = leb-false n i p in front d₁ h₁ lt ∙ sym (front d₂ h₂ lt)

pub render_size : (k₁ k₂ : List ℕ) (w : Writes) → length (render k₁ w) ≡ length (render k₂ w)
unfolding render
render_size k₁ k₂ (plain bs) = refl
render_size k₁ k₂ (reply ours theirs) =
    let a = digest_sixteen theirs k₁ in
    let b = digest_sixteen theirs k₂ in
    rw (reply_head ours (digest_of theirs k₁) a, reply_head ours (digest_of theirs k₂) b, a, b)
render_size k₁ k₂ (ack theirs) =
    let a = digest_sixteen theirs k₁ in
    let b = digest_sixteen theirs k₂ in
    rw (ack_head (digest_of theirs k₁) a, ack_head (digest_of theirs k₂) b, a, b)

-- the same bytes, whatever the cookies, save the excepted
output : (k₁ k₂ : List ℕ) (out : List ℕ) (w : Writes) (i : ℕ) → excepted w i ≡ false
    → get_or (written (render k₁ w) out) i 0 ≡ get_or (written (render k₂ w) out) i 0
unfolding render excepted
output k₁ k₂ out (plain bs) i e = refl
output k₁ k₂ out (reply ours theirs) i e =
    let a = digest_sixteen theirs k₁ in
    let b = digest_sixteen theirs k₂ in
    rw (reply_head ours (digest_of theirs k₁) a, reply_head ours (digest_of theirs k₂) b)
    (around (be 2 21 ++ 114 ∷ be 4 ours) (digest_of theirs k₁) (digest_of theirs k₂) out 7 i refl a b e)
output k₁ k₂ out (ack theirs) i e =
    let a = digest_sixteen theirs k₁ in
    let b = digest_sixteen theirs k₂ in
    rw (ack_head (digest_of theirs k₁) a, ack_head (digest_of theirs k₂) b)
    (around (be 2 17 ++ 97 ∷ []) (digest_of theirs k₁) (digest_of theirs k₂) out 3 i refl a b e)

-- ---- the plan

-- of the cookies the plan asks only whether those used are allowed
ordered : (b₁ b₂ b₁₀ ok₁ ok₂ : Bool) (ts : List Test) (due : Plan) → (b₁ ≡ false → ok₁ ≡ ok₂)
    → unless fails due (checked (OutputTooShort given-if b₁ ∷ SlotNotTaken given-if b₂ ∷ AlreadyConnected given-if b₁₀ ∷ BadCookie given-if not ok₁ ∷ ts))
    ≡ unless fails due (checked (OutputTooShort given-if b₁ ∷ SlotNotTaken given-if b₂ ∷ AlreadyConnected given-if b₁₀ ∷ BadCookie given-if not ok₂ ∷ ts))
ordered true b₂ b₁₀ ok₁ ok₂ ts due h = refl
ordered false b₂ b₁₀ ok₁ ok₂ ts due h = rw (h refl)

planned : (g : Endpoint) (s : ℕ) (f : List ℕ) (c : ℕ) (out : List ℕ) (k₁ k₂ : Cookies)
    → map allowed (used g (Message s f c out) k₁) ≡ map allowed (used g (Message s f c out) k₂)
    → plan g s f c (length out) (fit (slot_at g s).stage (checking k₁) (writing k₁)) ≡ plan g s f c (length out) (fit (slot_at g s).stage (checking k₂) (writing k₂))
unfolding used plan fit
planned g s f c out k₁ k₂ h =
    ordered (ltb (length out) room) (vacant g s) (is_a connected (slot_at g s)) _ _ (frame_tests f ++ form_tests (awaited g s f c).form)
    (awaited g s f c).rule (λ e. ap every (fits (ltb (length out) room) h e))
  where
    n₁ : List (List ℕ)
    n₁ = needed (slot_at g s).stage (checking k₁) (writing k₁)

    n₂ : List (List ℕ)
    n₂ = needed (slot_at g s).stage (checking k₂) (writing k₂)

    fits : (b : Bool) → map allowed (cond b [] n₁) ≡ map allowed (cond b [] n₂) → b ≡ false → map allowed n₁ ≡ map allowed n₂
    fits true h e = absurd (true≢false e)
    fits false h e = h

-- ---- the verdict

alike : (b₁ b₂ : Bool) (a : Act) → differ (some b₁) (some b₂) ≡ false → judged b₁ a ≡ judged b₂ a
alike true true a e = refl
alike true false a e = absurd (true≢false e)
alike false true a e = absurd (true≢false e)
alike false false a e = refl

decided : (k₁ k₂ : List ℕ) (p : Plan) → differ (verdict k₁ p) (verdict k₂ p) ≡ false → settled k₁ p ≡ settled k₂ p
unfolding verdict settled
decided k₁ k₂ (sure o) e = refl
decided k₁ k₂ (proven c d a) e = alike (same_bytes d (digest_of c k₁)) (same_bytes d (digest_of c k₂)) a e

-- ---- one call

-- what is done with one outcome
ended : (k₁ k₂ : List ℕ) (g : Endpoint) (s : ℕ) (out : List ℕ) (o : Outcome)
    → Same (writes_of o) (writes_of o) (finished k₁ g s o) (finished k₂ g s o) (written (finished k₁ g s o).bytes out) (written (finished k₂ g s o).bytes out)
unfolding finished written
ended k₁ k₂ g s out (stop r) = record { answer = refl; endpoint = refl; size = refl; bytes = λ i e. refl }
ended k₁ k₂ g s out (go a) =
    let n : length (render k₁ a.writes) ≡ length (render k₂ a.writes) = render_size k₁ k₂ a.writes in
    record {
      answer = rw n;
      endpoint = refl;
      size = sized n;
      bytes = λ i e. output k₁ k₂ out a.writes i (sym (and_self (excepted a.writes i)) ∙ e);
    }
  where
    sized : length (render k₁ a.writes) ≡ length (render k₂ a.writes)
        → length (written (render k₁ a.writes) out) ≡ length (written (render k₂ a.writes) out)
    sized n = simp (length-append, length-drop, n)

-- a message: the plans are the same, so the outcomes are, so what is done is
abbrev Ends : List ℕ → List ℕ → Endpoint → ℕ → List ℕ → Outcome → Outcome → Type 0
Ends k₁ k₂ g s out o₁ o₂ =
    Same (writes_of o₁) (writes_of o₂) (finished k₁ g s o₁) (finished k₂ g s o₂) (written (finished k₁ g s o₁).bytes out) (written (finished k₂ g s o₂).bytes out)

messaged : (i₁ i₂ k₁ k₂ : List ℕ) (g : Endpoint) (s : ℕ) (out : List ℕ) (p₁ p₂ : Plan) → p₁ ≡ p₂
    → differ (verdict i₁ p₁) (verdict i₂ p₂) ≡ false → Ends k₁ k₂ g s out (settled i₁ p₁) (settled i₂ p₂)
messaged i₁ i₂ k₁ k₂ g s out p₁ p₂ e v =
    let v' : differ (verdict i₁ p₁) (verdict i₂ p₁) ≡ false = rw (← e) at v in
    subst (λ (p : Plan). Ends k₁ k₂ g s out (settled i₁ p₁) (settled i₂ p)) e
    (subst (λ (o : Outcome). Ends k₁ k₂ g s out (settled i₁ p₁) o) (decided i₁ i₂ p₁ v') (ended k₁ k₂ g s out (settled i₁ p₁)))

-- one call on one endpoint, with the cookies of each run
called : (g : Endpoint) (c : Call) (k₁ k₂ : Cookies) → map allowed (used g c k₁) ≡ map allowed (used g c k₂)
    → differ (check_of g c k₁) (check_of g c k₂) ≡ false
    → Same (writes g c k₁) (writes g c k₂) (step g c k₁) (step g c k₂) (left g c k₁) (left g c k₂)
unfolding step check_of writes message_of
called g (Start n out) k₁ k₂ u v = record { answer = refl; endpoint = refl; size = refl; bytes = λ i e. refl }
called g Arrive k₁ k₂ u v = record { answer = refl; endpoint = refl; size = refl; bytes = λ i e. refl }
called g (Close s) k₁ k₂ u v = record { answer = refl; endpoint = refl; size = refl; bytes = λ i e. refl }
called g (Message s f c out) k₁ k₂ u v =
    messaged (checking k₁) (checking k₂) (writing k₁) (writing k₂) g s out (plan g s f c (length out) (fit (slot_at g s).stage (checking k₁) (writing k₁)))
    (plan g s f c (length out) (fit (slot_at g s).stage (checking k₂) (writing k₂))) (planned g s f c out k₁ k₂ u) v

differ_none : (v : Option Bool) → differ v v ≡ false
differ_none none = refl
differ_none (some true) = refl
differ_none (some false) = refl

pub no_secret_kept : NoSecretKept
no_secret_kept g c k₁ k₂ u v =
    let s = called g c k₁ k₂ u (ap (λ (x : Option Bool). differ (check_of g c k₁) x) (sym v) ∙ differ_none (check_of g c k₁)) in
    λ i. record { answer = s.answer i; endpoint = s.endpoint i }

-- ---- the list

-- from one endpoint; the endpoints after a call are equal, so the rest of the list goes on from one again
run : (g : Endpoint) (cs : List Given) → All Alike (before_split (moments g g cs)) → All Agree (before_split (moments g g cs))
unfolding moments before_split Alike splits
run g [] u = tt
run g (c ∷ cs) u =
    rest (run g₁ cs) (splits m) refl u
  where
    m : Moment
    m = record { given = c; first = g; second = g }

    g₁ : Endpoint
    g₁ = next g c.call c.one

    g₂ : Endpoint
    g₂ = next g c.call c.two

    rest : (All Alike (before_split (moments g₁ g₁ cs)) → All Agree (before_split (moments g₁ g₁ cs)))
        → (b : Bool) → splits m ≡ b → All Alike (cond b [] (m ∷ before_split (moments g₁ g₂ cs)))
        → All Agree (cond b [] (m ∷ before_split (moments g₁ g₂ cs)))
    rest later true e u = tt
    rest later false e u =
        let s : Agree m = called g c.call c.one c.two u.0 e in (
          s,
          subst (λ (h : Endpoint). All Alike (before_split (moments g₁ h cs)) → All Agree (before_split (moments g₁ h cs))) s.endpoint
              later u.1,
        )

-- ---- DEMAND 3

pub demand3 : Demand3
demand3 n f c g h e₁ e₂ cs =
    let e : g ≡ h = ap (λ (m : Made). m.endpoint) (sym e₁ ∙ e₂) in
    subst (λ (x : Endpoint). All Alike (before_split (moments g x cs)) → All Agree (before_split (moments g x cs))) e (run g cs)
