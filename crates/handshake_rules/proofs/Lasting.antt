-- A connected slot stays as it is, unless it is closed, or a right digest is shown on another slot of the same peer. Assumes nothing.
use Rattle.std.specs.Prelude.{None, Some, Err}
use Prim.Native.Nat.{ℕ, ◌<◌}
use mathlib.Core.Path.{◌≡◌, refl, sym, ◌∙◌, ap, subst}
use mathlib.Core.Logic.{◌⊎◌, inl, ⊎_map, ⊎_elim}
use mathlib.Core.Bool.{Bool, true, false, ◌&&◌}
use mathlib.Core.List.{List, []}
use native.Mathlib.Omega.{arith}
use lib.ListN.{length}
use lib.Dec.{eqb, leb, ltb}
use borrow.Author.Tests.{not-false, eqb-true, eqb-false, lt-ltb, ltb-true}
use Rattle.wire.specs.Run.{same_bytes}
use Rattle.wire.specs.Frame.{body}
use Rattle.wire.proofs.RunLaws.{same_decides, and_left}
use Rattle.handshake_rules.specs.declared.refusal.Refusal.{Refusal}
use Rattle.handshake_rules.specs.declared.refusal.Refusal.TheVariants.{OutputTooShort, SlotNotTaken, AlreadyConnected, WrongDigest}
use Rattle.handshake_rules.specs.declared.endpoint.Stage.{Stage}
use Rattle.handshake_rules.specs.declared.endpoint.Stage.TheVariants.{Free, AwaitsName, AwaitsAlive, AwaitsReply, AwaitsStatus, AwaitsChallenge, AwaitsAck, Connected}
use Rattle.handshake_rules.specs.declared.endpoint.Slot.{Slot}
use Rattle.handshake_rules.specs.State.{Endpoint, Freed}
use Rattle.handshake_rules.specs.declared.endpoint.Sought.TheVariants.{AnyFree, StartedTo, ConnectedTo}
use Rattle.handshake_rules.specs.declared.accepting.Greeting.{Greeting}
use Rattle.handshake_rules.specs.declared.accepting.Greeting.TheVariants.{NotAllowed, Nok, OkSimultaneous, Alive, Ok}
use Rattle.handshake_rules.specs.declared.connecting.Reaction.{Reaction}
use Rattle.handshake_rules.specs.declared.connecting.Reaction.TheVariants.{Proceed, Confirm, GiveUp, Unknown}
use Rattle.handshake_rules.specs.Refusals.{Fate, keep, free, message_fate, checked}
use Rattle.handshake_rules.specs.Endpoint.{free_slot, kind, slot_at, put, freed, free_other, lowest, lowest_free, is_slot, freed_at}
use Rattle.handshake_rules.specs.Messages.{name_flags, name_creation, name_name, status_word, true_word, false_word}
use Rattle.handshake_rules.specs.Cookie.{Cookies, checking, writing, fit, digest_of}
use Rattle.handshake_rules.specs.Plans.{Done, stop, go, Plan, sure, proven, fails, judged, settled, spared, finished, concluded}
use Rattle.handshake_rules.specs.Accepting.{greeting, on_name, older}
use Rattle.handshake_rules.specs.Connecting.{reaction, on_status}
use Rattle.handshake_rules.specs.Calls.{room, opened, start_tests, arrive_tests, close_tests, begun, arrived, silent, kept, start_of, arrive_of, close_of, expected, awaited, early_tests, message_tests, plan, message_of}
use Rattle.handshake_rules.specs.Runs.{Call, Start, Arrive, Close, Message, step, next, ends}
use Rattle.handshake_rules.specs.SlotClaims.{Carries, Shown, EndedBy, Lasting, peer, kind_of}
use Rattle.handshake_rules.proofs.CheckLaws.{unless_elim}
use Rattle.handshake_rules.proofs.SlotLaws.{put_at, found, both_true}
use Rattle.handshake_rules.proofs.PlanLaws.{Sane, sane, either}
use Rattle.handshake_rules.proofs.StageLaws.{attempt_at, message_refused}
use Rattle.handshake_rules.proofs.Kept.{kept_whole}

-- ---- which other slot a plan frees: our own attempt, or, by the digest, a connected slot of the same peer; sl is an accepted one

pub record Frees (g : Endpoint) (sl : Slot) (k o : ℕ) : Type 0 where
  pub within : o < 32
  pub kind : kind_of (slot_at g o) ≡ k
  pub here : kind_of sl ≡ 1

abbrev pub Freeing : Endpoint → Slot → Plan → Type 0
Freeing g sl (sure (stop r)) = Unit
Freeing g sl (sure (go a)) = (o : ℕ) → a.other ≡ Some o → Frees g sl 2 o
Freeing g sl (proven c d a) = (o : ℕ) → a.other ≡ Some o → Frees g sl 3 o × (peer (slot_at g o) ≡ peer sl)

-- what is found by kind and peer
pub seen : (k : ℕ) (n : List ℕ) (y : Slot) → (eqb (kind_of y) k && same_bytes (peer y) n) ≡ true → (kind_of y ≡ k) × (peer y ≡ n)
seen k n y e =
    let b = both_true (eqb (kind_of y) k) (same_bytes (peer y) n) e in
    (eqb-true (kind_of y) k b.0, (same_decides (peer y) n).0 b.1)

none_freed : (o : ℕ) → ◌≡◌ {A = Freed} None (Some o) → ⊥
none_freed o e = let z : ◌≡◌ {A = ℕ} 0 1 = cc in omega arith

module _ (g : Endpoint) (many : length g.slots ≡ 32) (sl : Slot) where
  frees_on_name : (n : List ℕ) (f k c : ℕ) (x : Greeting) → sl.stage ≡ AwaitsName → greeting g n ≡ x → Freeing g sl (on_name g n f k c x)
  frees_on_name n f k c NotAllowed st e = λ o e. absurd (none_freed o e)
  frees_on_name n f k c Nok st e = λ o e. absurd (none_freed o e)
  frees_on_name n f k c (OkSimultaneous mine) st e =
      λ o q.
      let at : mine ≡ o = cc in
      let h = attempt_at g n mine e in
      let t : is_slot (lowest StartedTo n g) ≡ true = ap is_slot h.1 ∙ lt-ltb mine 32 h.0 in
      let k = seen 2 n (slot_at g (lowest StartedTo n g)) (found g many StartedTo n t) in
      record { within = omega (arith, h.0, at); kind = ap (λ (i : ℕ). kind_of (slot_at g i)) (sym (h.1 ∙ at)) ∙ k.0; here = ap kind st }
  frees_on_name n f k c Alive st e = λ o e. absurd (none_freed o e)
  frees_on_name n f k c Ok st e = λ o e. absurd (none_freed o e)

  frees_older : sl.stage ≡ AwaitsReply → (o : ℕ) → older g sl ≡ Some o → Frees g sl 3 o × (peer (slot_at g o) ≡ peer sl)
  frees_older st o = by (is_slot j) refl
    where
      j : ℕ
      j = lowest ConnectedTo (peer sl) g

      by : (b : Bool) → is_slot j ≡ b → freed_at j b ≡ Some o → Frees g sl 3 o × (peer (slot_at g o) ≡ peer sl)
      by true t e =
          let at : j ≡ o = cc in
          let b = seen 3 (peer sl) (slot_at g j) (found g many ConnectedTo (peer sl) t) in (
            record {
              within = omega (arith, at, ltb-true j 32 t);
              kind = ap (λ (i : ℕ). kind_of (slot_at g i)) (sym at) ∙ b.0;
              here = ap kind st;
            },
            ap (λ (i : ℕ). peer (slot_at g i)) (sym at) ∙ b.1,
          )
      by false t e = let z : ◌≡◌ {A = ℕ} 0 1 = cc in absurd (omega arith)

  frees_status : (x : Reaction) → Freeing g sl (on_status sl x)
  frees_status Proceed = λ o e. absurd (none_freed o e)
  frees_status Confirm = λ o e. absurd (none_freed o e)
  frees_status GiveUp = tt
  frees_status Unknown = tt

  pub frees_rule : (c : ℕ) (b : List ℕ) (st : Stage) → sl.stage ≡ st → Freeing g sl (expected g sl c b st).rule
  unfolding expected
  frees_rule c b Free e = tt
  frees_rule c b AwaitsName e = frees_on_name (name_name b) (name_flags b) (name_creation b) c (greeting g (name_name b)) e refl
  frees_rule c b AwaitsAlive e =
      either (Freeing g sl) (same_bytes (status_word b) true_word) _ _ (λ o e. absurd (none_freed o e))
      (either (Freeing g sl) (same_bytes (status_word b) false_word) _ _ (λ o e. absurd (none_freed o e)) tt)
  frees_rule c b AwaitsReply e = frees_older e
  frees_rule c b AwaitsStatus e = frees_status (reaction (status_word b))
  frees_rule c b AwaitsChallenge e = λ o e. absurd (none_freed o e)
  frees_rule c b AwaitsAck e = λ o e. absurd (none_freed o e)
  frees_rule c b Connected e = tt

-- ---- one call

module _ (g : Endpoint) (many : length g.slots ≡ 32) (i : ℕ) (up : (slot_at g i).stage ≡ Connected) where
  abbrev Stays : Endpoint → Type 0
  Stays h = slot_at h i ≡ slot_at g i

  -- or the call ends it, and it is free
  abbrev Ends : Cookies → Call → Endpoint → Type 0
  Ends k c h = EndedBy k g i c × (slot_at h i ≡ free_slot)

  -- another slot is put
  put_else : (h : Endpoint) (s : ℕ) (x : Slot) → (s ≡ i → ⊥) → Stays h → Stays (put h s x)
  put_else h s x n e = ⊎_elim (λ p. p ∙ e) (λ p. absurd (n p.0)) (put_at h s x i)

  -- a slot of another kind is another slot
  not_this : (o k : ℕ) → kind_of (slot_at g o) ≡ k → (k ≡ 3 → ⊥) → o ≡ i → ⊥
  not_this o k e n q = n (sym e ∙ ap (λ (j : ℕ). kind_of (slot_at g j)) q ∙ ap kind up)

  free_one : is_slot (lowest_free g) ≡ true → kind_of (slot_at g (lowest_free g)) ≡ 0
  free_one e = eqb-true (kind_of (slot_at g (lowest_free g))) 0 (and_left _ _ (found g many AnyFree [] e))

  opens : (x : Slot) → is_slot (lowest_free g) ≡ true → Stays (put g (lowest_free g) x)
  opens x e = put_else g (lowest_free g) x (not_this (lowest_free g) 0 (free_one e) (λ z. omega arith)) refl

  -- a message on this very slot is refused, and keeps
  early_kept : (s size : ℕ) (x : Bool) → (r : Refusal) × ((checked (early_tests s Connected size x) ≡ Err r) × (message_fate r ≡ keep))
  early_kept s size x = by (ltb size room) (leb 32 s) refl refl
    where
      by : (a b : Bool) → ltb size room ≡ a → leb 32 s ≡ b → (r : Refusal) × ((checked (early_tests s Connected size x) ≡ Err r) × (message_fate r ≡ keep))
      by true b p q = (OutputTooShort, (rw p, refl))
      by false true p q = (SlotNotTaken, (rw (p, q), refl))
      by false false p q = (AlreadyConnected, (rw (p, q), refl))

  on_itself : (k : Cookies) (f : List ℕ) (c size : ℕ) → Stays (message_of k g i f c size).told.endpoint
  on_itself k f c size =
      let e = early_kept i size (fit (slot_at g i).stage (checking k) (writing k)) in
      let q = ap (λ (st : Stage). checked (early_tests i st size (fit (slot_at g i).stage (checking k) (writing k)))) up ∙ e.1.0 in
      ap (λ (d : Done). slot_at d.told.endpoint i) (message_refused k g i f c size e.0 q)
      ∙ ap (λ (x : Fate). slot_at (spared g i x) i) e.1.1

  module _ (k : Cookies) (s : ℕ) (n : s ≡ i → ⊥) where
    refused_else : (r : Refusal) → Stays (spared g s (message_fate r))
    refused_else r = by (message_fate r)
      where
        by : (x : Fate) → Stays (spared g s x)
        by keep = refl
        by free = put_else g s free_slot n refl

    other_else : (o : Freed) → ((j : ℕ) → o ≡ Some j → j ≡ i → ⊥) → Stays (free_other g o)
    other_else None h = refl
    other_else (Some j) h = put_else g j free_slot (h j refl) refl

    plan_else : (f : List ℕ) (c : ℕ) (out : List ℕ) (p : Plan) → Sane g (slot_at g s) (body f) p → Freeing g (slot_at g s) p
        → Stays (concluded (checking k) (writing k) g s p).told.endpoint
        ⊎ Ends k (Message s f c out) (concluded (checking k) (writing k) g s p).told.endpoint
    unfolding finished settled EndedBy Shown
    plan_else f c out (sure (stop r)) h w = inl (refused_else r)
    plan_else f c out (sure (go a)) h w =
        inl
        (put_else (free_other g a.other) s a.slot n
        (other_else a.other (λ j e. not_this j 2 (w j e).kind (λ z. omega arith))))
    plan_else f c out (proven ch d a) h w = judge (same_bytes d (digest_of ch (checking k))) refl
      where
        right : same_bytes d (digest_of ch (checking k)) ≡ true → d ≡ digest_of (slot_at g s).challenge (checking k)
        right t = (same_decides d (digest_of ch (checking k))).0 t ∙ ap (λ (x : ℕ). digest_of x (checking k)) h.0

        replaced : same_bytes d (digest_of ch (checking k)) ≡ true → (o : Freed) → a.other ≡ o
            → Stays (put (free_other g o) s a.slot) ⊎ Ends k (Message s f c out) (put (free_other g o) s a.slot)
        replaced t None e = inl (put_else g s a.slot n refl)
        replaced t (Some j) e =
            ⊎_elim (λ p. ⊎_map (λ q. p ∙ q) (λ q. (ended q.0, p ∙ q.1)) (put_at g j free_slot i)) (λ p. absurd (n p.0))
            (put_at (freed g j) s a.slot i)
          where
            ended : j ≡ i → EndedBy k g i (Message s f c out)
            ended q = ((refl, subst (Carries (slot_at g s) (body f)) (right t) h.1), sym (w j e).1 ∙ ap (λ (x : ℕ). peer (slot_at g x)) q, n)

        judge : (x : Bool) → same_bytes d (digest_of ch (checking k)) ≡ x
            → Stays (finished (writing k) g s (judged x a)).told.endpoint
            ⊎ Ends k (Message s f c out) (finished (writing k) g s (judged x a)).told.endpoint
        judge false t = inl (refused_else WrongDigest)
        judge true t = replaced t a.other refl

    told : (f : List ℕ) (c : ℕ) (out : List ℕ)
        → Stays (message_of k g s f c (length out)).told.endpoint ⊎ Ends k (Message s f c out) (message_of k g s f c (length out)).told.endpoint
    unfolding message_of plan
    told f c out =
        let x = fit (slot_at g s).stage (checking k) (writing k) in
        plan_else f c out (plan g s f c (length out) x) (sane g s f c (length out) x)
        (unless_elim (Freeing g (slot_at g s)) fails (awaited g s f c).rule (message_tests g s (length out) x f (awaited g s f c)) (λ r. tt)
        (λ h. frees_rule g many (slot_at g s) c (body f) (slot_at g s).stage refl))

  pub last : (c : Call) (k : Cookies) → Stays (next g c k) ⊎ Ends k c (next g c k)
  unfolding step start_of arrive_of close_of EndedBy
  last (Start n out) k =
      inl
      (unless_elim (λ d. Stays d.told.endpoint) (λ r. silent (kept g r)) (begun g n) (start_tests g n (length out)) (λ r. refl)
      (λ h. opens (opened AwaitsStatus n) (not-false _ h.1.1.1.0)))
  last Arrive k =
      inl
      (unless_elim (λ t. Stays t.endpoint) (kept g) (arrived g) (arrive_tests g) (λ r. refl)
      (λ h. opens (opened AwaitsName []) (not-false _ h.0)))
  last (Close s) k =
      unless_elim (λ t. Stays t.endpoint ⊎ ((s ≡ i) × (slot_at t.endpoint i ≡ free_slot))) (kept g) _ (close_tests g s) (λ r. inl refl)
      (λ h. put_at g s free_slot i)
  last (Message s f c out) k = by (eqb s i) refl
    where
      by : (b : Bool) → eqb s i ≡ b
          → Stays (message_of k g s f c (length out)).told.endpoint ⊎ Ends k (Message s f c out) (message_of k g s f c (length out)).told.endpoint
      by true q =
          inl (subst (λ (j : ℕ). Stays (message_of k g j f c (length out)).told.endpoint) (sym (eqb-true s i q)) (on_itself k f c (length out)))
      by false q = told k s (eqb-false s i q) f c out

pub lasting : Lasting
lasting n f c g m l call k i up = last (ends g l) (kept_whole n f c g m l).slots i up call k
