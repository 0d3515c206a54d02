-- A slot becomes connected only by a message on that very slot, whose digest is that of the slot's own challenge with the call's cookie. It holds of
-- every slot and every endpoint. Assumes nothing.
use Rattle.std.specs.Prelude.{None, Some, Ok}
use Prim.Native.Nat.{ℕ}
use mathlib.Core.Path.{◌≡◌, refl, sym, ◌∙◌, ap, subst}
use mathlib.Core.Logic.{◌⊎◌, inl, inr, ⊎_map, ⊎_elim}
use mathlib.Core.Bool.{Bool, true, false, true≢false}
use mathlib.Core.List.{List, [], ◌∷◌}
use native.Mathlib.Omega.{arith}
use lib.ListN.{length}
use lib.Dec.{eqb}
use Rattle.wire.specs.Run.{same_bytes}
use Rattle.wire.specs.Frame.{body}
use Rattle.wire.proofs.RunLaws.{same_decides}
use Rattle.handshake_rules.specs.declared.refusal.Refusal.{Refusal}
use Rattle.handshake_rules.specs.declared.refusal.Refusal.TheVariants.{WrongDigest}
use Rattle.handshake_rules.specs.declared.endpoint.Stage.{Stage}
use Rattle.handshake_rules.specs.declared.endpoint.Stage.TheVariants.{AwaitsName, AwaitsStatus, Connected}
use Rattle.handshake_rules.specs.declared.endpoint.Slot.{Slot}
use Rattle.handshake_rules.specs.State.{Endpoint, Freed}
use Rattle.handshake_rules.specs.declared.endpoint.Answer.TheVariants.{Answered}
use Rattle.handshake_rules.specs.Refusals.{message_fate}
use Rattle.names.specs.declared.held.Name.{Name}
use Rattle.names.specs.Held.{name_of}
use Rattle.handshake_rules.specs.Endpoint.{unused, free_slot, kind, connected, is_a, slot_at, put, free_other}
use Rattle.handshake_rules.specs.Cookie.{Cookies, checking, writing, fit, digest_of}
use Rattle.handshake_rules.specs.Plans.{Done, stop, go, Plan, sure, proven, judged, settled, render, spared, finished, concluded, moved}
use Rattle.handshake_rules.specs.Calls.{opened, start_tests, arrive_tests, close_tests, begun, arrived, silent, kept, start_of, arrive_of, close_of, plan, message_of}
use Rattle.handshake_rules.specs.Runs.{Start, Arrive, Close, Message, step, next, Asked, ends}
use Rattle.handshake_rules.specs.SlotClaims.{Carries, Shown, Connects, OnlyByDigest, Stays, ConnectedIn, ConnectedByDigest}
use Rattle.handshake_rules.proofs.CheckLaws.{unless_elim}
use Rattle.handshake_rules.proofs.SlotLaws.{put_at, blank}
use Rattle.handshake_rules.proofs.PlanLaws.{Sane, sane, spared_elim}
use Rattle.handshake_rules.proofs.Kept.{made_fresh, alike_call}
use Rattle.handshake_rules.proofs.Lasting.{last}

module _ (i : ℕ) where
  abbrev Up : Endpoint → Type 0
  Up g = (slot_at g i).stage ≡ Connected

  -- slot i is connected after a change only if it was, or if that was put there
  put_up : (g : Endpoint) (s : ℕ) (x : Slot) → Up (put g s x) → Up g ⊎ ((s ≡ i) × (slot_at (put g s x) i ≡ x))
  put_up g s x e = ⊎_map (λ p. ap (λ (y : Slot). y.stage) (sym p) ∙ e) (λ p. p) (put_at g s x i)

  -- and only if it was, where nothing connected is put there
  kept_up : (g : Endpoint) (s : ℕ) (x : Slot) → is_a connected x ≡ false → Up (put g s x) → Up g
  kept_up g s x n e = ⊎_elim (λ p. p) (λ p. absurd (true≢false (connected_true (ap (λ (y : Slot). y.stage) (sym p.1) ∙ e) n))) (put_up g s x e)
    where
      connected_true : x.stage ≡ Connected → is_a connected x ≡ false → true ≡ false
      connected_true p n = sym (ap (λ (st : Stage). eqb (kind st) 3) p) ∙ n

  other_up : (g : Endpoint) (o : Freed) → Up (free_other g o) → Up g
  other_up g None e = e
  other_up g (Some s) e = kept_up g s free_slot refl e

  refused_up : (g : Endpoint) (s : ℕ) (r : Refusal) → Up (spared g s (message_fate r)) → Up g
  refused_up g s r = spared_elim (λ h. Up h → Up g) g s r (λ e. e) (kept_up g s free_slot refl)

  module _ (k : Cookies) (g : Endpoint) where
    -- what connects a slot: the digest, the answer, and what is put
    record Through (s : ℕ) (f : List ℕ) (c : ℕ) (out : List ℕ) (d : Done) : Type 0 where
      shown : Shown k g i (Message s f c out)
      freed : Freed
      count : ℕ
      answer : d.told.answer ≡ Ok (Answered Connected freed count)
      slot : slot_at d.told.endpoint i ≡ moved (slot_at g i) Connected

    plan_up : (s : ℕ) (f : List ℕ) (c : ℕ) (out : List ℕ) (p : Plan) → Sane g (slot_at g s) (body f) p
        → Up (concluded (checking k) (writing k) g s p).told.endpoint → Up g ⊎ Through s f c out (concluded (checking k) (writing k) g s p)
    unfolding finished settled Shown
    plan_up s f c out (sure (stop r)) h e = inl (refused_up g s r e)
    plan_up s f c out (sure (go a)) h e = inl (other_up g a.other (kept_up (free_other g a.other) s a.slot h.0 e))
    plan_up s f c out (proven ch d a) h e = judge (same_bytes d (digest_of ch (checking k))) refl e
      where
        right : same_bytes d (digest_of ch (checking k)) ≡ true → d ≡ digest_of (slot_at g s).challenge (checking k)
        right t = (same_decides d (digest_of ch (checking k))).0 t ∙ ap (λ (n : ℕ). digest_of n (checking k)) h.0

        shown : same_bytes d (digest_of ch (checking k)) ≡ true → s ≡ i → Shown k g i (Message s f c out)
        shown t p = subst (λ (j : ℕ). Shown k g j (Message s f c out)) p (refl, subst (Carries (slot_at g s) (body f)) (right t) h.1)

        judge : (x : Bool) → same_bytes d (digest_of ch (checking k)) ≡ x → Up (finished (writing k) g s (judged x a)).told.endpoint
            → Up g ⊎ Through s f c out (finished (writing k) g s (judged x a))
        judge false t e = inl (refused_up g s WrongDigest e)
        judge true t e =
            ⊎_map (other_up g a.other)
            (λ p.
            record {
              shown = shown t p.0;
              freed = a.other;
              count = _;
              answer = ap (λ (x : Slot). Ok (Answered x.stage a.other (length (render (writing k) a.writes)))) h.2;
              slot = p.1 ∙ h.2 ∙ ap (λ (j : ℕ). moved (slot_at g j) Connected) p.0;
            })
            (put_up (free_other g a.other) s a.slot e)

pub only_by_digest : OnlyByDigest
unfolding step start_of arrive_of close_of message_of
only_by_digest i k g (Start n out) e =
    inl
    (unless_elim (λ d. Up i d.told.endpoint → Up i g) (λ r. silent (kept g r)) (begun g n) (start_tests g n (length out)) (λ r u. u)
    (λ h. kept_up i g _ (opened AwaitsStatus n) refl) e)
only_by_digest i k g Arrive e =
    inl (unless_elim (λ t. Up i t.endpoint → Up i g) (kept g) (arrived g) (arrive_tests g) (λ r u. u) (λ h. kept_up i g _ (opened AwaitsName []) refl) e)
only_by_digest i k g (Close s) e =
    inl (unless_elim (λ t. Up i t.endpoint → Up i g) (kept g) _ (close_tests g s) (λ r u. u) (λ h. kept_up i g s free_slot refl) e)
only_by_digest i k g (Message s f c out) e =
    ⊎_map (λ u. u) (λ t. record { shown = t.shown; freed = t.freed; count = t.count; answer = t.answer; slot = t.slot })
    (plan_up i k g s f c out (plan g s f c (length out) (fit (slot_at g s).stage (checking k) (writing k))) (sane g s f c (length out) (fit (slot_at g s).stage (checking k) (writing k))) e)

stays_now : (i : ℕ) (x : Slot) (g : Endpoint) (l : List Asked) → Stays i x g l → slot_at g i ≡ x
unfolding Stays
stays_now i x g [] h = h
stays_now i x g (a ∷ rest) h = h.0

-- a slot that is connected before and after a call is the same
since : (i : ℕ) (g : Endpoint) → length g.slots ≡ 32 → (a : Asked) → Up i g → Up i (next g a.call a.cookies)
    → slot_at (next g a.call a.cookies) i ≡ slot_at g i
since i g many a u v = ⊎_elim (λ p. p) (λ p. absurd (free_down p.1 v)) (last g many i u a.call a.cookies)
  where
    free_down : {x : Slot} → x ≡ free_slot → x.stage ≡ Connected → ⊥
    free_down {x} p v =
        let z : ◌≡◌ {A = ℕ} 0 3 = ap (λ (y : Slot). kind y.stage) (sym p) ∙ ap kind v in
        omega arith

run_up : (i : ℕ) (g : Endpoint) (l : List Asked) → length g.slots ≡ 32 → Up i (ends g l)
    → Stays i (slot_at (ends g l) i) g l ⊎ ConnectedIn i (slot_at (ends g l) i) g l
unfolding ends Stays ConnectedIn
run_up i g [] many e = inl refl
run_up i g (a ∷ rest) many e =
    let h = next g a.call a.cookies in
    ⊎_elim (λ s. goes_on s (stays_now i (slot_at (ends h rest) i) h rest s)) (λ q. inr (inr q))
    (run_up i h rest ((alike_call g a.call a.cookies).slots ∙ many) e)
  where
    h : Endpoint
    h = next g a.call a.cookies

    x : Slot
    x = slot_at (ends h rest) i

    goes_on : Stays i x h rest → slot_at h i ≡ x
        → ((slot_at g i ≡ x) × Stays i x h rest) ⊎ ((Connects a.cookies g i a.call × Stays i x h rest) ⊎ ConnectedIn i x h rest)
    goes_on s p =
        let v : Up i h = ap (λ (y : Slot). y.stage) p ∙ e in
        ⊎_map (λ u. (sym (since i g many a u v) ∙ p, s)) (λ c. inl (c, s)) (only_by_digest i a.cookies g a.call v)

none_up : (n : Name) (f c i : ℕ) → (slot_at (unused n f c) i).stage ≡ Connected → ⊥
none_up n f c i e =
    let z : ◌≡◌ {A = ℕ} 0 3 = ap (λ (x : Slot). kind x.stage) (sym (blank n f c i)) ∙ ap kind e in
    omega arith

pub connected_by_digest : ConnectedByDigest
connected_by_digest i n f c g m l e =
    ⊎_elim (λ s. absurd (none_up (name_of n) f c i (first ∙ ap (λ (x : Slot). x.stage) (stays_now i _ g l s) ∙ e))) (λ q. q)
    (run_up i g l (ap (λ (h : Endpoint). length h.slots) (made_fresh n f c g m)) e)
  where
    first : (slot_at (unused (name_of n) f c) i).stage ≡ (slot_at g i).stage
    first = ap (λ (h : Endpoint). (slot_at h i).stage) (sym (made_fresh n f c g m))
