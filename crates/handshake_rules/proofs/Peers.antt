-- Two slots that have one peer are one connected and one accepted in progress, in every endpoint that making and calls give. Assumes nothing.
use Rattle.std.specs.Prelude.{None, Some}
use Prim.Native.Nat.{ℕ, ◌<◌, ◌≤◌}
use mathlib.Core.Path.{◌≡◌, refl, sym, ◌∙◌, ap, subst}
use mathlib.Core.Logic.{◌⊎◌, inl, inr, ⊎_map, ⊎_elim}
use mathlib.Core.Bool.{Bool, true, false, cond, ◌&&◌, ◌||◌, true≢false}
use mathlib.Core.List.{List, [], ◌∷◌}
use native.Mathlib.Omega.{arith}
use lib.ListN.{length, length-set}
use lib.Dec.{eqb}
use borrow.Author.Tests.{not-false, eqb-true, eqb-false, eq-eqb, ltb-true}
use Rattle.wire.specs.Run.{same_bytes, order}
use Rattle.wire.specs.Frame.{body}
use Rattle.wire.proofs.RunLaws.{same_decides}
use Rattle.names.specs.Held.{name_of, name_bytes}
use Rattle.names.specs.Full.{full_name}
use Rattle.names.proofs.HeldLaws.{name_back}
use Rattle.handshake_rules.specs.declared.endpoint.Stage.{Stage}
use Rattle.handshake_rules.specs.declared.endpoint.Stage.TheVariants.{Free, AwaitsName, AwaitsAlive, AwaitsReply, AwaitsStatus, AwaitsChallenge, AwaitsAck, Connected}
use Rattle.handshake_rules.specs.declared.endpoint.Slot.{Slot}
use Rattle.handshake_rules.specs.State.{Endpoint, Freed}
use Rattle.handshake_rules.specs.declared.endpoint.Sought.TheVariants.{AnyTaken, AcceptedFrom, StartedTo, ConnectedTo}
use Rattle.handshake_rules.specs.declared.accepting.Greeting.TheVariants.{NotAllowed, Nok, Alive, Ok}
use Rattle.handshake_rules.specs.declared.connecting.Reaction.{Reaction}
use Rattle.handshake_rules.specs.declared.connecting.Reaction.TheVariants.{Proceed, Confirm, GiveUp, Unknown}
use Rattle.handshake_rules.specs.Endpoint.{free_slot, kind, slot_at, put, freed, free_other, lowest, is_slot, freed_at}
use Rattle.handshake_rules.specs.Messages.{name_flags, name_creation, name_name, status_word, true_word, false_word}
use Rattle.handshake_rules.specs.Forms.{form_tests}
use Rattle.handshake_rules.specs.Cookie.{Cookies}
use Rattle.handshake_rules.specs.Plans.{Act, stop, go, Plan, sure, proven, moved}
use Rattle.handshake_rules.specs.Accepting.{is_greater, contest, greeting, on_name, older}
use Rattle.handshake_rules.specs.Connecting.{reaction, on_status}
use Rattle.handshake_rules.specs.Calls.{opened, expected, awaited}
use Rattle.handshake_rules.specs.Runs.{Call, next, Asked, ends}
use Rattle.handshake_rules.specs.SlotClaims.{peer, kind_of, Fine, PeersApart}
use Rattle.handshake_rules.specs.Claims.{NoneHolds}
use Rattle.handshake_rules.proofs.MessageLaws.{full_short}
use Rattle.handshake_rules.proofs.SlotLaws.{put_at, put_same, put_other, blank, found, none_found}
use Rattle.handshake_rules.proofs.PlanLaws.{either, Does, after_call}
use Rattle.handshake_rules.proofs.Kept.{made_fresh}
use Rattle.handshake_rules.proofs.Lasting.{seen}

-- a name that is read, held and seen again
no_peer : name_bytes (name_of []) ≡ []
no_peer = name_back []

-- ---- slots apart

record Apart (g : Endpoint) : Type 0 where
  many : length g.slots ≡ 32
  tidy : (i : ℕ) → kind_of (slot_at g i) ≡ 0 → peer (slot_at g i) ≡ []
  fine : (i j : ℕ) → (i ≡ j → ⊥) → Fine (slot_at g i) (slot_at g j)

fine_sym : (x y : Slot) → Fine x y → Fine y x
unfolding Fine
fine_sym x y f e = ⊎_map (λ p. e ∙ p) (⊎_elim (λ p. inr (p.1, p.0)) (λ p. inl (p.1, p.0))) (f (sym e))

-- a slot x is put where it is apart from the others
apart_put : (g : Endpoint) (s : ℕ) (x : Slot) → Apart g → (kind_of x ≡ 0 → peer x ≡ []) → ((j : ℕ) → (s ≡ j → ⊥) → Fine x (slot_at g j)) → Apart (put g s x)
apart_put g s x a t f =
    record {
      many = length-set g.slots s x ∙ a.many;
      tidy = λ i. tidy' i (put_at g s x i);
      fine = λ i j n. fine' i j n (put_at g s x i) (put_at g s x j);
    }
  where
    New : ℕ → Type 0
    New i = (slot_at (put g s x) i ≡ slot_at g i) ⊎ ((s ≡ i) × (slot_at (put g s x) i ≡ x))

    tidy' : (i : ℕ) → New i → kind_of (slot_at (put g s x) i) ≡ 0 → peer (slot_at (put g s x) i) ≡ []
    tidy' i (inl e) = rw e (a.tidy i)
    tidy' i (inr e) = rw e.1 t

    fine' : (i j : ℕ) → (i ≡ j → ⊥) → New i → New j → Fine (slot_at (put g s x) i) (slot_at (put g s x) j)
    fine' i j n (inl e) (inl d) = rw (e, d) (a.fine i j n)
    fine' i j n (inl e) (inr d) = rw (e, d.1) (fine_sym x (slot_at g i) (f i (λ q. n (sym q ∙ d.0))))
    fine' i j n (inr e) (inl d) = rw (e.1, d) (f j (λ q. n (sym e.0 ∙ q)))
    fine' i j n (inr e) (inr d) = absurd (n (sym e.0 ∙ d.0))

-- a slot that has no peer is apart from all
lone : (x y : Slot) → peer x ≡ [] → Fine x y
unfolding Fine
lone x y h e = inl h

apart_freed : (g : Endpoint) (s : ℕ) → Apart g → Apart (freed g s)
apart_freed g s a = apart_put g s free_slot a (λ e. no_peer) (λ j n. lone free_slot (slot_at g j) no_peer)

apart_other : (g : Endpoint) (o : Freed) → Apart g → Apart (free_other g o)
apart_other g None a = a
apart_other g (Some s) a = apart_freed g s a

-- another record of the same kind and peer
fine_like : (x y z : Slot) → peer y ≡ peer x → kind_of y ≡ kind_of x → Fine x z → Fine y z
unfolding Fine
fine_like x y z p k f e = ⊎_map (λ q. p ∙ q) (⊎_map (λ q. (k ∙ q.0, q.1)) (λ q. (k ∙ q.0, q.1))) (f (sym p ∙ e))

-- a started slot is alone with its peer, so it may become connected
alone : (x y z : Slot) → kind_of x ≡ 2 → peer y ≡ peer x → Fine x z → Fine y z
unfolding Fine
alone x y z k p f e = inl (⊎_elim (λ q. p ∙ q) (⊎_elim (λ q. absurd (omega (arith, k, q.0))) (λ q. absurd (omega (arith, k, q.0)))) (f (sym p ∙ e)))

-- ---- look-up, as kind and peer

unseen : (k : ℕ) (n : List ℕ) (y : Slot) → (eqb (kind_of y) k && same_bytes (peer y) n) ≡ false → kind_of y ≡ k → peer y ≡ n → ⊥
unseen k n y e p q = true≢false (sym (yes' p q) ∙ e)
  where
    yes' : kind_of y ≡ k → peer y ≡ n → (eqb (kind_of y) k && same_bytes (peer y) n) ≡ true
    yes' p q = rw (eq-eqb (kind_of y) k p) ((same_decides (peer y) n).1 q)

kinds : (st : Stage) → ((kind st ≡ 0) ⊎ (kind st ≡ 1)) ⊎ ((kind st ≡ 2) ⊎ (kind st ≡ 3))
kinds Free = inl (inl refl)
kinds AwaitsName = inl (inr refl)
kinds AwaitsAlive = inl (inr refl)
kinds AwaitsReply = inl (inr refl)
kinds AwaitsStatus = inr (inl refl)
kinds AwaitsChallenge = inr (inl refl)
kinds AwaitsAck = inr (inl refl)
kinds Connected = inr (inr refl)

-- apart from the others once slot o is freed
freed_fine : (g : Endpoint) (o : ℕ) → o < length g.slots → (x : Slot) (j : ℕ) → ((o ≡ j → ⊥) → Fine x (slot_at g j)) → Fine x (slot_at (freed g o) j)
unfolding Fine
freed_fine g o l x j f = cases (eqb o j) refl
  where
    cases : (b : Bool) → eqb o j ≡ b → Fine x (slot_at (freed g o) j)
    cases true e =
        let q : slot_at (freed g o) j ≡ free_slot = subst (λ (i : ℕ). slot_at (freed g o) i ≡ free_slot) (eqb-true o j e) (put_same g o free_slot l) in
        λ h. inl (h ∙ ap peer q ∙ no_peer)
    cases false e = rw (put_other g o free_slot j (λ q. eqb-false o j e (sym q))) (f (eqb-false o j e))

-- ---- plans

module _ (g : Endpoint) (a : Apart g) (s : ℕ) where
  abbrev Good : Act → Type 0
  Good x = (kind_of x.slot ≡ 0 → peer x.slot ≡ []) × ((j : ℕ) → (s ≡ j → ⊥) → Fine x.slot (slot_at (free_other g x.other) j))

  abbrev GoodPlan : Plan → Type 0
  GoodPlan (sure (stop r)) = Unit
  GoodPlan (sure (go x)) = Good x
  GoodPlan (proven c d x) = Good x

  away : (kind_of free_slot ≡ 0 → peer free_slot ≡ []) × ((j : ℕ) → (s ≡ j → ⊥) → Fine free_slot (slot_at g j))
  away = (λ e. no_peer, λ j n. lone free_slot (slot_at g j) no_peer)

  -- the slot goes on, of its kind and with its peer
  stays : (x : Slot) → kind_of (slot_at g s) ≡ kind_of x → peer x ≡ peer (slot_at g s) → (kind_of x ≡ 0 → ⊥)
      → (kind_of x ≡ 0 → peer x ≡ []) × ((j : ℕ) → (s ≡ j → ⊥) → Fine x (slot_at g j))
  stays x k p z = (λ e. absurd (z e), λ j n. fine_like (slot_at g s) x (slot_at g j) p (sym k) (a.fine s j n))

  -- a name is read on a slot, x is what it becomes: nobody else that is accepted or started has it
  welcomed : (x : Slot) (n : List ℕ) → peer x ≡ n → kind_of x ≡ 1 → is_slot (lowest AcceptedFrom n g) ≡ false → is_slot (lowest StartedTo n g) ≡ false
      → (j : ℕ) → Fine x (slot_at g j)
  unfolding Fine
  welcomed x n p k acc str j e =
      ⊎_elim
      (⊎_elim (λ q. inl (e ∙ a.tidy j q))
      (λ q. absurd (unseen 1 n (slot_at g j) (none_found g a.many AcceptedFrom n refl acc j) q (sym e ∙ p))))
      (⊎_elim (λ q. absurd (unseen 2 n (slot_at g j) (none_found g a.many StartedTo n refl str j) q (sym e ∙ p))) (λ q. inr (inr (k, q))))
      (kinds (slot_at g j).stage)

  -- our attempt to the same peer is freed
  instead : (x : Slot) (n : List ℕ) → peer x ≡ n → is_slot (lowest StartedTo n g) ≡ true → (j : ℕ) → Fine x (slot_at (freed g (lowest StartedTo n g)) j)
  instead x n p e j =
      let mine = lowest StartedTo n g in
      let q = seen 2 n (slot_at g mine) (found g a.many StartedTo n e) in
      freed_fine g mine (omega (arith, a.many, ltb-true mine 32 e)) x j (λ m. alone (slot_at g mine) x (slot_at g j) q.0 (p ∙ sym q.1) (a.fine mine j m))

  -- by the tests of the greeting
  module _ (n : List ℕ) (f k c : ℕ) (short : length n ≤ 255) where
    by_greeting : (x y z w v : Bool) → is_slot (lowest AcceptedFrom n g) ≡ y → is_slot (lowest StartedTo n g) ≡ z
        → GoodPlan (on_name g n f k c (cond x NotAllowed (cond y Nok (cond z (contest v (lowest StartedTo n g)) (cond w Alive Ok)))))
    by_greeting true y z w v p q = away
    by_greeting false true z w v p q = away
    by_greeting false false true w true p q = (λ e. absurd (omega arith), λ j m. instead _ n (name_back n) q j)
    by_greeting false false true w false p q = away
    by_greeting false false false true v p q = (λ e. absurd (omega arith), λ j m. welcomed _ n (name_back n) refl p q j)
    by_greeting false false false false v p q = (λ e. absurd (omega arith), λ j m. welcomed _ n (name_back n) refl p q j)

    good_name : GoodPlan (on_name g n f k c (greeting g n))
    unfolding greeting
    good_name =
        by_greeting (same_bytes (name_bytes g.name) n) (is_slot (lowest AcceptedFrom n g)) (is_slot (lowest StartedTo n g)) (is_slot (lowest ConnectedTo n g))
        (is_greater (order n (name_bytes g.name))) refl refl

  -- the older connected slot is freed
  replaces : (x : Slot) → kind_of (slot_at g s) ≡ 1 → peer x ≡ peer (slot_at g s) → (j : ℕ) → (s ≡ j → ⊥) → Fine x (slot_at (free_other g (older g (slot_at g s))) j)
  unfolding Fine
  replaces x k p j n = by (is_slot (lowest ConnectedTo (peer (slot_at g s)) g)) refl
    where
      o : ℕ
      o = lowest ConnectedTo (peer (slot_at g s)) g

      by : (b : Bool) → is_slot o ≡ b → Fine x (slot_at (free_other g (freed_at o b)) j)
      by false e = none_older (none_found g a.many ConnectedTo (peer (slot_at g s)) refl e j)
        where
          none_older : (eqb (kind_of (slot_at g j)) 3 && same_bytes (peer (slot_at g j)) (peer (slot_at g s))) ≡ false → Fine x (slot_at g j)
          none_older u h =
              ⊎_elim (λ q. inl (p ∙ q))
              (⊎_elim (λ q. absurd (omega (arith, k, q.0))) (λ q. absurd (unseen 3 (peer (slot_at g s)) (slot_at g j) u q.1 (sym (sym p ∙ h)))))
              (a.fine s j n (sym p ∙ h))
      by true e = freed_fine g o (omega (arith, a.many, ltb-true o 32 e)) x j (one_older (seen 3 (peer (slot_at g s)) (slot_at g o) (found g a.many ConnectedTo (peer (slot_at g s)) e)))
        where
          one_older : (kind_of (slot_at g o) ≡ 3) × (peer (slot_at g o) ≡ peer (slot_at g s)) → (o ≡ j → ⊥) → Fine x (slot_at g j)
          one_older l m h =
              ⊎_elim (λ q. inl (p ∙ q))
              (⊎_elim (λ q. absurd (omega (arith, k, q.0)))
              (λ q.
              ⊎_elim (λ r. inl (p ∙ sym l.1 ∙ r))
              (⊎_elim (λ r. absurd (omega (arith, q.1, r.1))) (λ r. absurd (omega (arith, l.0, r.0))))
              (a.fine o j m (l.1 ∙ sym p ∙ h))))
              (a.fine s j n (sym p ∙ h))

  good_status : (x : Reaction) → (slot_at g s).stage ≡ AwaitsStatus → GoodPlan (on_status (slot_at g s) x)
  good_status Proceed e = stays _ (ap kind e) refl (λ z. omega arith)
  good_status Confirm e = stays _ (ap kind e) refl (λ z. omega arith)
  good_status GiveUp e = tt
  good_status Unknown e = tt

  good_rule : (c : ℕ) (b : List ℕ) (st : Stage) → (slot_at g s).stage ≡ st → NoneHolds (form_tests (expected g (slot_at g s) c b st).form)
      → GoodPlan (expected g (slot_at g s) c b st).rule
  unfolding expected
  good_rule c b Free e h = tt
  good_rule c b AwaitsName e h =
      good_name (name_name b) (name_flags b) (name_creation b) c (full_short (name_name b) (not-false (full_name (name_name b)) h.1.1.0))
  good_rule c b AwaitsAlive e h =
      either GoodPlan (same_bytes (status_word b) true_word) _ _ (stays _ (ap kind e) refl (λ z. omega arith))
      (either GoodPlan (same_bytes (status_word b) false_word) _ _ away tt)
  good_rule c b AwaitsReply e h = (λ z. absurd (omega arith), replaces _ (ap kind e) refl)
  good_rule c b AwaitsStatus e h = good_status (reaction (status_word b)) e
  good_rule c b AwaitsChallenge e h = stays _ (ap kind e) refl (λ z. omega arith)
  good_rule c b AwaitsAck e h =
      (λ z. absurd (omega arith), λ j n. alone (slot_at g s) (moved (slot_at g s) Connected) (slot_at g j) (ap kind e) refl (a.fine s j n))
  good_rule c b Connected e h = tt

  apart_go : (x : Act) → Good x → Apart (put (free_other g x.other) s x.slot)
  apart_go x h = apart_put (free_other g x.other) s x.slot (apart_other g x.other a) h.0 h.1

  apart_plan : (p : Plan) → GoodPlan p → Does Apart g s p
  apart_plan (sure (stop r)) h = tt
  apart_plan (sure (go x)) h = apart_go x h
  apart_plan (proven c d x) h = apart_go x h

-- ---- calls and runs

or_right : (x y : Bool) → (x || y) ≡ false → y ≡ false
or_right true y e = absurd (true≢false e)
or_right false y e = e

-- nobody has the peer that a start is made towards
new_peer : (g : Endpoint) → Apart g → (n : List ℕ) → length n ≤ 255 → is_slot (lowest AnyTaken n g) ≡ false → (j : ℕ) → Fine (opened AwaitsStatus n) (slot_at g j)
unfolding Fine
new_peer g a n short m j e = inl (cases (eqb (kind_of (slot_at g j)) 0) refl)
  where
    cases : (b : Bool) → eqb (kind_of (slot_at g j)) 0 ≡ b → peer (opened AwaitsStatus n) ≡ []
    cases true q = e ∙ a.tidy j (eqb-true (kind_of (slot_at g j)) 0 q)
    cases false q = absurd (true≢false (sym (rw q ((same_decides (peer (slot_at g j)) n).1 (sym e ∙ name_back n))) ∙ none_found g a.many AnyTaken n refl m j))

apart_call : (g : Endpoint) (c : Call) (k : Cookies) → Apart g → Apart (next g c k)
apart_call g c k a =
    after_call Apart g a (λ s. apart_freed g s a) c k
    (λ n size h.
    apart_put g _ (opened AwaitsStatus n) a (λ e. absurd (omega arith))
    (λ j q. new_peer g a n (full_short n (not-false (full_name n) h.1.0)) (or_right (same_bytes (name_bytes g.name) n) (is_slot (lowest AnyTaken n g)) h.1.1.0) j))
    (λ h. apart_put g _ (opened AwaitsName []) a (λ e. no_peer) (λ j m. lone (opened AwaitsName []) (slot_at g j) no_peer))
    (λ s m ch size x h. apart_plan g a s (awaited g s m ch).rule (good_rule g a s ch (body m) (slot_at g s).stage refl h.1.1.1.1.1))

apart_run : (g : Endpoint) (l : List Asked) → Apart g → Apart (ends g l)
unfolding ends
apart_run g [] a = a
apart_run g (x ∷ l) a = apart_run (next g x.call x.cookies) l (apart_call g x.call x.cookies a)

pub peers_apart : PeersApart
peers_apart n f c g m l = (apart_run g l first).fine
  where
    all : (i : ℕ) → peer (slot_at g i) ≡ []
    all i = ap (λ (h : Endpoint). peer (slot_at h i)) (made_fresh n f c g m) ∙ ap peer (blank (name_of n) f c i) ∙ no_peer

    first : Apart g
    first =
        record {
          many = ap (λ (h : Endpoint). length h.slots) (made_fresh n f c g m);
          tidy = λ i e. all i;
          fine = λ i j q. lone (slot_at g i) (slot_at g j) (all i);
        }
