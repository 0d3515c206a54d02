-- The challenge that a slot holds where a digest is checked is the one last sent on it (specs/SlotClaims). Assumes nothing.
use Prim.Native.Nat.{ℕ, ◌+◌, ◌≤◌}
use mathlib.Core.Path.{◌≡◌, refl, sym, ◌∙◌, ap, subst}
use mathlib.Core.Logic.{◌⊎◌, inl, inr, ⊎_elim, ⊎_map}
use mathlib.Core.List.{List, [], ◌∷◌, ◌++◌}
use native.Mathlib.Omega.{arith}
use lib.ListN.{length, length-append}
use Rattle.wire.specs.Run.{same_bytes}
use Rattle.wire.specs.Frame.{body}
use Rattle.names.specs.Held.{name_of, name_bytes}
use Rattle.handshake_rules.specs.declared.endpoint.Stage.{Stage}
use Rattle.handshake_rules.specs.declared.endpoint.Stage.TheVariants.{Free, AwaitsName, AwaitsAlive, AwaitsReply, AwaitsStatus, AwaitsChallenge, AwaitsAck, Connected}
use Rattle.handshake_rules.specs.declared.endpoint.Slot.{Slot}
use Rattle.handshake_rules.specs.State.{Endpoint}
use Rattle.handshake_rules.specs.declared.accepting.Greeting.{Greeting}
use Rattle.handshake_rules.specs.declared.accepting.Greeting.TheVariants.{NotAllowed, Nok, OkSimultaneous, Alive, Ok}
use Rattle.handshake_rules.specs.declared.connecting.Reaction.{Reaction}
use Rattle.handshake_rules.specs.declared.connecting.Reaction.TheVariants.{Proceed, Confirm, GiveUp, Unknown}
use Rattle.handshake_rules.specs.Endpoint.{free_slot, stage_number, slot_at}
use Rattle.handshake_rules.specs.Messages.{name_name, name_flags, name_creation, challenge_challenge, reply_challenge, status_message, reply_message, status_word, ok, ok_simultaneous, true_word, false_word}
use Rattle.handshake_rules.specs.Cookie.{Cookies, checking, writing, digest_of}
use Rattle.handshake_rules.specs.Plans.{Done, Writes, plain, reply, Act, render, challenge_of}
use Rattle.handshake_rules.specs.Accepting.{greeting, on_name}
use Rattle.handshake_rules.specs.Connecting.{reaction, on_status}
use Rattle.handshake_rules.specs.Calls.{expected, awaited, message_of}
use Rattle.handshake_rules.specs.Runs.{Call, Start, Arrive, Close, Message, step, next, Asked, ends}
use Rattle.handshake_rules.specs.SlotClaims.{On, lent_challenge, InChallenge, InReply, SentChallenge, SentReply, Sends, NoneSent, LastSentIn, LastSent}
use Rattle.handshake_rules.proofs.MessageLaws.{challenge_size, reply_size, ack_size}
use Rattle.handshake_rules.proofs.SlotLaws.{blank}
use Rattle.handshake_rules.proofs.Kept.{made_fresh}
use Rattle.handshake_rules.proofs.CookieLaws.{digest_sixteen}
use Rattle.handshake_rules.proofs.PlanLaws.{either}
use Rattle.handshake_rules.proofs.Changes.{Acted, Came, stops, acts, came, OnAct, act_of, Change, unchanged, emptied, begins, comes_in, moves, changes}

-- ---- what an act writes, by the stage that it leads to; h: the challenge lent to the call

abbrev Behind : Endpoint → ℕ → Writes → Type 0
Behind g h w = (before : List ℕ) × (((before ≡ []) ⊎ ((word : List ℕ) × (before ≡ status_message word))) × (w ≡ plain (before ++ challenge_of g h)))

abbrev Wrote : Endpoint → ℕ → Writes → ℕ → Stage → Type 0
Wrote g h w c Free = Unit
Wrote g h w c AwaitsName = Unit
Wrote g h w c AwaitsAlive = Unit
Wrote g h w c AwaitsReply = (c ≡ h) × Behind g h w
Wrote g h w c AwaitsStatus = Unit
Wrote g h w c AwaitsChallenge = Unit
Wrote g h w c AwaitsAck = (c ≡ h) × ((theirs : ℕ) × (w ≡ reply h theirs))
Wrote g h w c Connected = Unit

module _ (g : Endpoint) (h : ℕ) where
  abbrev Sending : Act → Type 0
  Sending a = Wrote g h a.writes a.slot.challenge a.slot.stage

  on_name_lem : (n : List ℕ) (f k : ℕ) (x : Greeting) → OnAct Sending (on_name g n f k h x)
  on_name_lem n f k NotAllowed = tt
  on_name_lem n f k Nok = tt
  on_name_lem n f k (OkSimultaneous mine) = (refl, (status_message ok_simultaneous, (inr (ok_simultaneous, refl), refl)))
  on_name_lem n f k Alive = tt
  on_name_lem n f k Ok = (refl, (status_message ok, (inr (ok, refl), refl)))

  on_status_lem : (sl : Slot) (x : Reaction) → OnAct Sending (on_status sl x)
  on_status_lem sl Proceed = tt
  on_status_lem sl Confirm = tt
  on_status_lem sl GiveUp = tt
  on_status_lem sl Unknown = tt

  rule : (sl : Slot) (b : List ℕ) (st : Stage) → OnAct Sending (expected g sl h b st).rule
  unfolding expected
  rule sl b Free = tt
  rule sl b AwaitsName = on_name_lem (name_name b) (name_flags b) (name_creation b) (greeting g (name_name b))
  rule sl b AwaitsAlive =
      either (OnAct Sending) (same_bytes (status_word b) true_word) _ _ (refl, ([], (inl refl, refl)))
      (either (OnAct Sending) (same_bytes (status_word b) false_word) _ _ tt tt)
  rule sl b AwaitsReply = tt
  rule sl b AwaitsStatus = on_status_lem sl (reaction (status_word b))
  rule sl b AwaitsChallenge = (refl, (challenge_challenge b, refl))
  rule sl b AwaitsAck = tt
  rule sl b Connected = tt

sending : (k : Cookies) (g : Endpoint) (s : ℕ) (f : List ℕ) (h size : ℕ) (a : Act) → Acted k g s f h size a → Sending g h a
sending k g s f h size a d =
    act_of (Sending g h) (checking k) (awaited g s f h).rule a (rule g h (slot_at g s) (body f) (slot_at g s).stage) d.comes

-- ---- one call

-- two stages that differ
apart : {x y : Stage} → x ≡ y → (stage_number x ≡ stage_number y → ⊥) → ⊥
apart e n = n (ap stage_number e)

module _ (k : Cookies) (g : Endpoint) (c : Call) (i : ℕ) where
  -- a stage to which no opening leads: the slot was there, or a message moved it
  abbrev Old : Slot → Type 0
  Old x = x ≡ slot_at g i

  abbrev Moved : Slot → Type 0
  Moved x =
      (f : List ℕ) × ((h : ℕ) × ((out : List ℕ) × ((c ≡ Message i f h out) × ((a : Act) × (Acted k g i f h (length out) a × (x ≡ a.slot))))))

  moved_to : (x : Slot) (st : Stage) → x.stage ≡ st → (stage_number st ≡ 0 → ⊥) → (stage_number st ≡ 1 → ⊥) → (stage_number st ≡ 4 → ⊥)
      → Change k g i c x → Old x ⊎ Moved x
  moved_to x st e n₀ n₁ n₄ (unchanged p) = inl p
  moved_to x st e n₀ n₁ n₄ (emptied p) = absurd (n₀ (ap stage_number (sym e) ∙ ap (λ (y : Slot). stage_number y.stage) p))
  moved_to x st e n₀ n₁ n₄ (begins n out q p) = absurd (n₄ (ap stage_number (sym e) ∙ ap (λ (y : Slot). stage_number y.stage) p))
  moved_to x st e n₀ n₁ n₄ (comes_in q p) = absurd (n₁ (ap stage_number (sym e) ∙ ap (λ (y : Slot). stage_number y.stage) p))
  moved_to x st e n₀ n₁ n₄ (moves f h out q a d p) = inr (f, (h, (out, (q, (a, (d, p))))))

module _ (k : Cookies) (g : Endpoint) (i : ℕ) (f : List ℕ) (h : ℕ) (out : List ℕ) (a : Act) (d : Acted k g i f h (length out) a) where
  abbrev now : Call
  now = Message i f h out

  bytes : (step g now k).bytes ≡ render (writing k) a.writes
  unfolding step
  bytes = ap (λ (x : Done). x.bytes) d.done

  led : (x : Slot) (st : Stage) → x.stage ≡ st → x ≡ a.slot → Wrote g h a.writes x.challenge st
  led x st e p = subst (λ (s : Stage). Wrote g h a.writes x.challenge s) e (subst (λ (y : Slot). Wrote g h a.writes y.challenge y.stage) (sym p) (sending k g i f h (length out) a d))

  in_challenge : (x : Slot) → x.stage ≡ AwaitsReply → x ≡ a.slot
      → On i now × (x.challenge ≡ lent_challenge now) × InChallenge g (step g now k).bytes x.challenge
  unfolding On lent_challenge render
  in_challenge x e p =
      let w = led x AwaitsReply e p in (
        refl,
        w.0,
        record {
          before = w.1.0;
          status = w.1.1.0;
          is = bytes ∙ ap (render (writing k)) w.1.1.1 ∙ ap (λ (m : ℕ). w.1.0 ++ challenge_of g m) (sym w.0);
        },
      )

  in_reply : (x : Slot) → x.stage ≡ AwaitsAck → x ≡ a.slot
      → On i now × (x.challenge ≡ lent_challenge now) × InReply (step g now k).bytes x.challenge
  unfolding On lent_challenge render
  in_reply x e p =
      let w = led x AwaitsAck e p in (
        refl,
        w.0,
        record {
          digest = digest_of w.1.0 (writing k);
          sixteen = digest_sixteen w.1.0 (writing k);
          is = bytes ∙ ap (render (writing k)) w.1.1 ∙ ap (λ (m : ℕ). reply_message m (digest_of w.1.0 (writing k))) (sym w.0);
        },
      )

pub sent_challenge : SentChallenge
sent_challenge k g c i e = ⊎_map (λ p. p) by (moved_to k g c i x AwaitsReply e (λ z. omega arith) (λ z. omega arith) (λ z. omega arith) (changes k g i c))
  where
    x : Slot
    x = slot_at (next g c k) i

    by : Moved k g c i x → On i c × (x.challenge ≡ lent_challenge c) × InChallenge g (step g c k).bytes x.challenge
    by (f, (h, (out, (q, (a, (d, p)))))) =
        subst (λ (b : Call). On i b × (x.challenge ≡ lent_challenge b) × InChallenge g (step g b k).bytes x.challenge) (sym q)
        (in_challenge k g i f h out a d x e p)

pub sent_reply : SentReply
sent_reply k g c i e = ⊎_map (λ p. p) by (moved_to k g c i x AwaitsAck e (λ z. omega arith) (λ z. omega arith) (λ z. omega arith) (changes k g i c))
  where
    x : Slot
    x = slot_at (next g c k) i

    by : Moved k g c i x → On i c × (x.challenge ≡ lent_challenge c) × InReply (step g c k).bytes x.challenge
    by (f, (h, (out, (q, (a, (d, p)))))) =
        subst (λ (b : Call). On i b × (x.challenge ≡ lent_challenge b) × InReply (step g b k).bytes x.challenge) (sym q)
        (in_reply k g i f h out a d x e p)

-- ---- where a digest is awaited no challenge is sent: at most the 19 bytes of an acknowledgement are written

abbrev Awaits : Slot → Type 0
Awaits x = (x.stage ≡ AwaitsReply) ⊎ (x.stage ≡ AwaitsAck)

abbrev Short : Act → Type 0
Short a = (k : List ℕ) → length (render k a.writes) ≤ 19

short_rule : (g : Endpoint) (sl : Slot) (h : ℕ) (b : List ℕ) → Awaits sl → OnAct Short (expected g sl h b sl.stage).rule
unfolding expected render
short_rule g sl h b (inl e) =
    subst (λ (st : Stage). OnAct Short (expected g sl h b st).rule) (sym e) (λ k. omega (arith, ack_size (digest_of (reply_challenge b) k) (digest_sixteen (reply_challenge b) k)))
short_rule g sl h b (inr e) = subst (λ (st : Stage). OnAct Short (expected g sl h b st).rule) (sym e) (λ k. omega arith)

no_challenge : (g : Endpoint) (bytes : List ℕ) (h : ℕ) → length bytes ≤ 19 → InChallenge g bytes h ⊎ InReply bytes h → ⊥
no_challenge g bytes h l (inl m) =
    let e : length bytes ≡ length m.before + length (challenge_of g h) = ap length m.is ∙ length-append m.before (challenge_of g h) in
    omega (arith, challenge_size g.flags h g.creation (name_bytes g.name))
no_challenge g bytes h l (inr m) =
    let e : length bytes ≡ length (reply_message h m.digest) = ap length m.is in
    omega (arith, reply_size h m.digest m.sixteen)

quiet : (k : Cookies) (g : Endpoint) (i : ℕ) (c : Call) → Awaits (slot_at g i) → (h : ℕ) → Sends k g i c h → ⊥
unfolding Sends On step
quiet k g i (Start n out) w h s = s.0
quiet k g i Arrive w h s = s.0
quiet k g i (Close j) w h s = s.0
quiet k g i (Message j f c out) w h s =
    no_challenge g _ h (by (came k g j f c (length out))) s.1
  where
    by : Came k g j f c (length out) → length (message_of k g j f c (length out)).bytes ≤ 19
    by (stops r e) = omega (arith, ap (λ (d : Done). length d.bytes) e)
    by (acts a d) =
        let short : Short a = act_of Short (checking k) (awaited g j f c).rule a (short_rule g (slot_at g j) c (body f) (subst (λ (m : ℕ). Awaits (slot_at g m)) (sym s.0) w)) d.comes in
        omega (arith, ap (λ (d : Done). length d.bytes) d.done, short (writing k))

-- ---- a run

sent_run : (i : ℕ) (g : Endpoint) (l : List Asked) → Awaits (slot_at (ends g l) i)
    → ((slot_at (ends g l) i ≡ slot_at g i) × NoneSent i g l) ⊎ LastSentIn i (slot_at (ends g l) i).challenge g l
unfolding ends NoneSent LastSentIn Sends
sent_run i g [] w = inl (refl, tt)
sent_run i g (a ∷ rest) w = ⊎_elim goes_on (λ q. inr (inr q)) (sent_run i h rest w)
  where
    h : Endpoint
    h = next g a.call a.cookies

    x : Slot
    x = slot_at (ends h rest) i

    Goal : Type 0
    Goal =
        ((x ≡ slot_at g i) × (((m : ℕ) → Sends a.cookies g i a.call m → ⊥) × NoneSent i h rest))
        ⊎ ((Sends a.cookies g i a.call x.challenge × NoneSent i h rest) ⊎ LastSentIn i x.challenge h rest)

    same : NoneSent i h rest → x ≡ slot_at h i → slot_at h i ≡ slot_at g i → Goal
    same s p q = inl (p ∙ q, (quiet a.cookies g i a.call (subst Awaits (p ∙ q) w), s))

    new : NoneSent i h rest → x ≡ slot_at h i → Sends a.cookies g i a.call (slot_at h i).challenge → Goal
    new s p q = inr (inl (subst (λ (y : Slot). Sends a.cookies g i a.call y.challenge) (sym p) q, s))

    goes_on : (x ≡ slot_at h i) × NoneSent i h rest → Goal
    goes_on (p, s) =
        ⊎_elim
        (λ e. ⊎_elim (same s p) (λ q. new s p (q.0, inl q.2)) (sent_challenge a.cookies g a.call i (ap (λ (y : Slot). y.stage) (sym p) ∙ e)))
        (λ e. ⊎_elim (same s p) (λ q. new s p (q.0, inr q.2)) (sent_reply a.cookies g a.call i (ap (λ (y : Slot). y.stage) (sym p) ∙ e)))
        w

none_awaits : Awaits free_slot → ⊥
none_awaits (inl e) = apart e (λ z. omega arith)
none_awaits (inr e) = apart e (λ z. omega arith)

pub last_sent : LastSent
last_sent n f c g m l i w =
    ⊎_elim (λ p. absurd (none_awaits (subst Awaits (p.0 ∙ ap (λ (h : Endpoint). slot_at h i) (made_fresh n f c g m) ∙ blank (name_of n) f c i) w))) (λ q. q)
    (sent_run i g l w)
