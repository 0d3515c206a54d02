-- 01, The gate, "Message on a slot, by stage": the stages of a connection that arrived.
use Rattle.std.specs.Prelude.{ℕ, Bool, true, false, cond, List, [], ◌++◌, None, Some}
use Rattle.std.specs.declared.cmp.Ordering.{Ordering}
use Rattle.std.specs.declared.cmp.Ordering.TheVariants.{Less, Equal, Greater}
use Rattle.wire.specs.Run.{same_bytes, order}
use Rattle.names.specs.Held.{name_of, name_bytes}
use Rattle.handshake_rules.specs.declared.refusal.Refusal.TheVariants.{UnknownStatus}
use Rattle.handshake_rules.specs.declared.endpoint.Stage.{Stage}
use Rattle.handshake_rules.specs.declared.endpoint.Stage.TheVariants.{AwaitsAlive, AwaitsReply, Connected}
use Rattle.handshake_rules.specs.declared.endpoint.Slot.{Slot}
use Rattle.handshake_rules.specs.State.{Endpoint, Freed}
use Rattle.handshake_rules.specs.declared.endpoint.Sought.TheVariants.{AcceptedFrom, StartedTo, ConnectedTo}
use Rattle.handshake_rules.specs.declared.accepting.Greeting.{Greeting}
use Rattle.handshake_rules.specs.declared.accepting.Greeting.TheVariants.{NotAllowed, Nok, OkSimultaneous, Alive, Ok}
use Rattle.handshake_rules.specs.Endpoint.{free_slot, lowest, is_slot, freed_at}
use Rattle.handshake_rules.specs.Messages.{name_flags, name_creation, name_name, status_word, reply_challenge, reply_digest, status_message, ok, ok_simultaneous, nok, not_allowed, alive, true_word, false_word}
use Rattle.handshake_rules.specs.Forms.{name_form, status_form, reply_form}
use Rattle.handshake_rules.specs.Plans.{ack, Plan, proven, does, fails, Expected, sent, moved, challenge_of}

-- ---- awaits name

abbrev pub is_greater : Ordering → Bool
is_greater Less = false
is_greater Equal = false
is_greater Greater = true

-- "peer greater, ok_simultaneous and our attempt's slot is freed; peer less, nok"
abbrev pub contest : Bool → ℕ → Greeting
contest true mine = OkSimultaneous mine
contest false mine = Nok

-- "The first rule that fits" a peer's name n. The slot itself has no peer yet, so another slot is any that has this one
unfoldable pub greeting : Endpoint → List ℕ → Greeting
greeting g n =
    cond (same_bytes (name_bytes g.name) n) NotAllowed
    (cond (is_slot (lowest AcceptedFrom n g)) Nok
    (cond (is_slot (lowest StartedTo n g)) (contest (is_greater (order n (name_bytes g.name))) (lowest StartedTo n g))
    (cond (is_slot (lowest ConnectedTo n g)) Alive Ok)))

-- the slot with what the name message brings: "name, flags and creation are recorded when read, and the challenge when sent"
abbrev pub heard : List ℕ → ℕ → ℕ → Stage → ℕ → Slot
heard n f k st c = record { stage = st; name = name_of n; flags = f; creation = k; challenge = c }

abbrev pub turn_away : List ℕ → Plan
turn_away word = does free_slot None (status_message word)

-- "After ok and ok_simultaneous the challenge message follows in the same output, with the challenge lent to this call; awaits reply."
abbrev pub welcomes : Endpoint → List ℕ → ℕ → List ℕ
welcomes g word c = status_message word ++ challenge_of g c

-- n, f and k: the name, flags and creation that are read; c: the challenge lent to this call
abbrev pub on_name : Endpoint → List ℕ → ℕ → ℕ → ℕ → Greeting → Plan
on_name g n f k c NotAllowed = turn_away not_allowed
on_name g n f k c Nok = turn_away nok
on_name g n f k c (OkSimultaneous mine) = does (heard n f k AwaitsReply c) (Some mine) (welcomes g ok_simultaneous c)
on_name g n f k c Alive = does (heard n f k AwaitsAlive 0) None (status_message alive)
on_name g n f k c Ok = does (heard n f k AwaitsReply c) None (welcomes g ok c)

abbrev pub expect_name : Endpoint → ℕ → List ℕ → Expected
expect_name g c b =
    record {
      form = name_form b;
      rule = on_name g (name_name b) (name_flags b) (name_creation b) c (greeting g (name_name b));
    }

-- ---- awaits alive answer

-- "true: challenge written as after ok, awaits reply. false: freed, nothing written; this is an answer and no refusal. Any other word: 14."
abbrev pub on_alive : Endpoint → Slot → ℕ → List ℕ → Plan
on_alive g sl c w =
    cond (same_bytes w true_word) (does (sent sl AwaitsReply c) None (challenge_of g c))
    (cond (same_bytes w false_word) (does free_slot None []) (fails UnknownStatus))

abbrev pub expect_alive : Endpoint → Slot → ℕ → List ℕ → Expected
expect_alive g sl c b = record { form = status_form b; rule = on_alive g sl c (status_word b) }

-- ---- awaits reply

-- "Right digest for the slot's challenge: acknowledgement for the peer's challenge is written, the slot is connected, and an older connected slot of
-- this peer is freed. Wrong: 15."
abbrev pub older : Endpoint → Slot → Freed
older g sl = freed_at (lowest ConnectedTo (name_bytes sl.name) g) (is_slot (lowest ConnectedTo (name_bytes sl.name) g))

abbrev pub expect_reply : Endpoint → Slot → List ℕ → Expected
expect_reply g sl b =
    record {
      form = reply_form b;
      rule =
          proven sl.challenge (reply_digest b)
          (record { slot = moved sl Connected; other = older g sl; writes = ack (reply_challenge b) });
    }
