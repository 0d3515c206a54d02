-- What a message tells of the slots that it freed or moved (specs/SlotClaims). Assumes nothing.
use Rattle.std.specs.Prelude.{None, Some, Ok, Err, Result}
use Prim.Native.Nat.{ℕ, ◌<◌}
use mathlib.Core.Path.{◌≡◌, refl, sym, ◌∙◌, ap, subst}
use mathlib.Core.Logic.{◌⊎◌, inl, inr, ⊎_elim}
use mathlib.Core.Bool.{Bool, true, false, ◌||◌, true≢false}
use mathlib.Core.List.{List}
use native.Mathlib.Omega.{arith}
use lib.ListN.{length}
use lib.Dec.{leb, eqb}
use borrow.Author.Tests.{leb-true, leb-false, ne_eqb}
use Rattle.wire.specs.Frame.{body}
use Rattle.handshake_rules.specs.declared.refusal.Refusal.{Refusal}
use Rattle.handshake_rules.specs.declared.endpoint.Stage.{Stage}
use Rattle.handshake_rules.specs.declared.endpoint.Stage.TheVariants.{Free, AwaitsName, AwaitsAlive, AwaitsReply, AwaitsStatus, AwaitsChallenge, AwaitsAck, Connected}
use Rattle.handshake_rules.specs.declared.endpoint.Slot.{Slot}
use Rattle.handshake_rules.specs.State.{Endpoint, Freed}
use Rattle.handshake_rules.specs.declared.endpoint.Answer.{Answer}
use Rattle.handshake_rules.specs.declared.endpoint.Answer.TheVariants.{Answered}
use Rattle.handshake_rules.specs.Refusals.{Fate, keep, free, message_fate, is_free}
use Rattle.handshake_rules.specs.Answers.{ends_slot}
use Rattle.handshake_rules.specs.Endpoint.{free_slot, stage_number, slot_at, put, freed, free_other}
use Rattle.handshake_rules.specs.Cookie.{Cookies, checking}
use Rattle.handshake_rules.specs.Plans.{Done, Act, stop, go, Plan, sure, proven, spared}
use Rattle.handshake_rules.specs.Calls.{awaited, message_of}
use Rattle.handshake_rules.specs.Runs.{step, ends}
use Rattle.handshake_rules.specs.SlotClaims.{kind_of, WasTaken, FreedWasTaken, StageTold, EndTold, as_named, as_refused, as_other, EndsTold, EndExact}
use Rattle.handshake_rules.proofs.SlotLaws.{put_at, put_same, put_other, past_last}
use Rattle.handshake_rules.proofs.Kept.{kept_whole, alike_other}
use Rattle.handshake_rules.proofs.Lasting.{Frees, Freeing, frees_rule}
use Rattle.handshake_rules.proofs.Changes.{Acted, Came, stops, acts, came, OnAct, act_of}

or_left : (x y : Bool) → (x || y) ≡ false → x ≡ false
or_left true y e = absurd (true≢false e)
or_left false y e = refl

stage_free : (st : Stage) → stage_number st ≡ 0 → st ≡ Free
stage_free Free e = refl
stage_free AwaitsName e = absurd (omega arith)
stage_free AwaitsAlive e = absurd (omega arith)
stage_free AwaitsReply e = absurd (omega arith)
stage_free AwaitsStatus e = absurd (omega arith)
stage_free AwaitsChallenge e = absurd (omega arith)
stage_free AwaitsAck e = absurd (omega arith)
stage_free Connected e = absurd (omega arith)

-- ---- the slot told as freed

-- whichever it is: an attempt of ours or a connected slot
abbrev Told : Endpoint → Slot → Act → Type 0
Told g sl a = (o : ℕ) → a.other ≡ Some o → Frees g sl 2 o ⊎ Frees g sl 3 o

told_plan : (g : Endpoint) (sl : Slot) (p : Plan) → Freeing g sl p → OnAct (Told g sl) p
told_plan g sl (sure (stop r)) h = tt
told_plan g sl (sure (go a)) h = λ o e. inl (h o e)
told_plan g sl (proven c d a) h = λ o e. inr (h o e).0

module _ (g : Endpoint) (many : length g.slots ≡ 32) (k : Cookies) (s : ℕ) (m : List ℕ) (h : ℕ) (out : List ℕ) where
  abbrev end : Endpoint
  end = (message_of k g s m h (length out)).told.endpoint

  refused_not : (r : Refusal) (st : Stage) (o : Freed) (count : ℕ) → ◌≡◌ {A = Result Answer Refusal} (Err r) (Ok (Answered st o count)) → ⊥
  refused_not r st o count e = let z : ◌≡◌ {A = ℕ} 0 1 = cc in omega arith

  taken : (o j : ℕ) → (j ≡ 0 → ⊥) → (j ≡ 1 → ⊥) → Frees g (slot_at g s) j o → (a : Act) → a.other ≡ Some o → Acted k g s m h (length out) a → WasTaken g s o end
  taken o j z u w a e d =
      record { within = w.within; taken = λ p. z (sym w.kind ∙ p); other = apart; free = ap (λ (x : Done). slot_at x.told.endpoint o) d.done ∙ ap (λ (x : Freed). slot_at (put (free_other g x) s a.slot) o) e ∙ put_other (freed g o) s a.slot o apart ∙ put_same g o free_slot (omega (arith, many, w.within)) }
    where
      apart : o ≡ s → ⊥
      apart q = u (sym w.kind ∙ ap (λ (i : ℕ). kind_of (slot_at g i)) q ∙ w.here)

  told_taken : (st : Stage) (o count : ℕ) → Came k g s m h (length out) → (message_of k g s m h (length out)).told.answer ≡ Ok (Answered st (Some o) count)
      → WasTaken g s o end
  told_taken st o count (stops r e) q = absurd (refused_not r st (Some o) count (ap (λ (d : Done). d.told.answer) (sym e) ∙ q))
  told_taken st o count (acts a d) q =
      let p = ap (λ (d : Done). d.told.answer) (sym d.done) ∙ q in
      let e : a.other ≡ Some o = cc in
      ⊎_elim (λ w. taken o 2 (λ z. omega arith) (λ z. omega arith) w a e d) (λ w. taken o 3 (λ z. omega arith) (λ z. omega arith) w a e d)
      (act_of (Told g (slot_at g s)) (checking k) (awaited g s m h).rule a
      (told_plan g (slot_at g s) (awaited g s m h).rule (frees_rule g many (slot_at g s) h (body m) (slot_at g s).stage refl)) d.comes o e)

  told_stage : (st : Stage) (o : Freed) (count : ℕ) → Came k g s m h (length out) → (message_of k g s m h (length out)).told.answer ≡ Ok (Answered st o count)
      → (slot_at end s).stage ≡ st
  told_stage st o count (stops r e) q = absurd (refused_not r st o count (ap (λ (d : Done). d.told.answer) (sym e) ∙ q))
  told_stage st o count (acts a d) q =
      let p = ap (λ (d : Done). d.told.answer) (sym d.done) ∙ q in
      let e : a.slot.stage ≡ st = cc in
      let within : s < 32 = leb-false 32 s (or_left (leb 32 s) _ d.passes.1.0) in
      ap (λ (x : Done). (slot_at x.told.endpoint s).stage) d.done
      ∙ ap (λ (x : Slot). x.stage) (put_same (free_other g a.other) s a.slot (omega (arith, many, (alike_other g a.other).slots))) ∙ e

  taken_within : ((slot_at g s).stage ≡ Free → ⊥) → s < 32
  taken_within up = by (leb 32 s) refl
    where
      by : (b : Bool) → leb 32 s ≡ b → s < 32
      by true e = absurd (up (ap (λ (x : Slot). x.stage) (past_last g s (omega (arith, many, leb-true 32 s e)))))
      by false e = leb-false 32 s e

  end_spared : ((slot_at g s).stage ≡ Free → ⊥) → (x : Fate) → is_free x ≡ eqb (stage_number (slot_at (spared g s x) s).stage) 0
  end_spared up keep = sym (ne_eqb (stage_number (slot_at g s).stage) 0 (λ e. up (stage_free (slot_at g s).stage e)))
  end_spared up free =
      sym (ap (λ (x : Slot). eqb (stage_number x.stage) 0) (put_same g s free_slot (omega (arith, many, taken_within up))))

  end_told : ((slot_at g s).stage ≡ Free → ⊥) → Came k g s m h (length out)
      → ends_slot (message_of k g s m h (length out)).told.answer ≡ eqb (stage_number (slot_at end s).stage) 0
  end_told up (stops r e) =
      ap (λ (d : Done). ends_slot d.told.answer) e ∙ end_spared up (message_fate r)
      ∙ ap (λ (d : Done). eqb (stage_number (slot_at d.told.endpoint s).stage) 0) (sym e)
  end_told up (acts a d) =
      let e = ap (λ (x : Done). x.told.answer) d.done in
      ap ends_slot e
      ∙ ap (λ (st : Stage). eqb (stage_number st) 0) (sym (told_stage a.slot.stage a.other _ (acts a d) e))

pub end_exact : EndExact
unfolding step
end_exact n f c g made l k s m h out up =
    end_told (ends g l) (kept_whole n f c g made l).slots k s m h out up (came k (ends g l) s m h (length out))

pub freed_was_taken : FreedWasTaken
unfolding step
freed_was_taken n f c g made l k s m h out st o count e =
    told_taken (ends g l) (kept_whole n f c g made l).slots k s m h out st o count (came k (ends g l) s m h (length out)) e

pub stage_told : StageTold
unfolding step
stage_told n f c g made l k s m h out st o count e =
    told_stage (ends g l) (kept_whole n f c g made l).slots k s m h out st o count (came k (ends g l) s m h (length out)) e

-- ---- every slot that ends is told

module _ (g : Endpoint) (s j : ℕ) (up : (slot_at g j).stage ≡ Free → ⊥) where
  kept_up : {x : Slot} {A : Type 0} → x ≡ slot_at g j → x.stage ≡ Free → A
  kept_up p e = absurd (up (ap (λ (y : Slot). y.stage) (sym p) ∙ e))

  spared_told : (r : Refusal) (x : Fate) → message_fate r ≡ x → (slot_at (spared g s x) j).stage ≡ Free → EndTold s j (Err r)
  spared_told r keep p e = kept_up refl e
  spared_told r free p e = ⊎_elim (λ q. kept_up q e) (λ q. as_refused (sym q.0) r refl p) (put_at g s free_slot j)

  other_told : (st : Stage) (o : Freed) (count : ℕ) → (slot_at (free_other g o) j).stage ≡ Free → EndTold s j (Ok (Answered st o count))
  other_told st None count e = kept_up refl e
  other_told st (Some i) count e =
      ⊎_elim (λ q. kept_up q e) (λ q. as_other st count (ap (λ (m : ℕ). Ok (Answered st (Some m) count)) q.0)) (put_at g i free_slot j)

  acted_told : (x : Slot) (o : Freed) (count : ℕ) → (slot_at (put (free_other g o) s x) j).stage ≡ Free → EndTold s j (Ok (Answered x.stage o count))
  acted_told x o count e =
      ⊎_elim (λ q. other_told x.stage o count (ap (λ (y : Slot). y.stage) (sym q) ∙ e))
      (λ q. as_named (sym q.0) o count (ap (λ (st : Stage). Ok (Answered st o count)) (ap (λ (y : Slot). y.stage) (sym q.1) ∙ e)))
      (put_at (free_other g o) s x j)

  told_end : (d : Done) → (k : Cookies) (f : List ℕ) (h size : ℕ) → message_of k g s f h size ≡ d → Came k g s f h size → (slot_at d.told.endpoint j).stage ≡ Free
      → EndTold s j d.told.answer
  told_end d k f h size q (stops r p) =
      subst (λ (x : Done). (slot_at x.told.endpoint j).stage ≡ Free → EndTold s j x.told.answer) (sym p ∙ q) (spared_told r (message_fate r) refl)
  told_end d k f h size q (acts a w) =
      subst (λ (x : Done). (slot_at x.told.endpoint j).stage ≡ Free → EndTold s j x.told.answer) (sym w.done ∙ q)
      (acted_told a.slot a.other _)

pub ends_told : EndsTold
unfolding step
ends_told k g s f h out j up e = told_end g s j up _ k f h (length out) refl (came k g s f h (length out)) e
