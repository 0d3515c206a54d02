-- 01, The gate, "Message on a slot, by stage": the stages of an attempt that we started.
use Rattle.std.specs.Prelude.{ℕ, cond, ◌||◌, List, [], None}
use Rattle.wire.specs.Run.{same_bytes}
use Rattle.names.specs.Held.{name_bytes}
use Rattle.handshake_rules.specs.declared.refusal.Refusal.TheVariants.{UnknownStatus, Declined}
use Rattle.handshake_rules.specs.declared.endpoint.Stage.TheVariants.{AwaitsChallenge, AwaitsAck, Connected}
use Rattle.handshake_rules.specs.declared.endpoint.Slot.{Slot}
use Rattle.handshake_rules.specs.declared.connecting.Reaction.{Reaction}
use Rattle.handshake_rules.specs.declared.connecting.Reaction.TheVariants.{Proceed, Confirm, GiveUp, Unknown}
use Rattle.handshake_rules.specs.Forms.{status_form, challenge_form, ack_form}
use Rattle.handshake_rules.specs.Messages.{challenge_flags, challenge_challenge, challenge_creation, status_word, ack_digest, status_message, ok, ok_simultaneous, nok, not_allowed, alive, true_word}
use Rattle.handshake_rules.specs.Plans.{plain, reply, go, Plan, sure, proven, does, fails, Expected, moved}

-- ---- awaits status

-- what a status word means to us
unfoldable pub reaction : List ℕ → Reaction
reaction w =
    cond (same_bytes w ok || same_bytes w ok_simultaneous) Proceed
    (cond (same_bytes w alive) Confirm
    (cond (same_bytes w nok || same_bytes w not_allowed) GiveUp Unknown))

-- "ok, ok_simultaneous: awaits challenge. alive: writes status true, awaits challenge. nok, not_allowed: 16. Any other word: 14."
abbrev pub on_status : Slot → Reaction → Plan
on_status sl Proceed = does (moved sl AwaitsChallenge) None []
on_status sl Confirm = does (moved sl AwaitsChallenge) None (status_message true_word)
on_status sl GiveUp = fails Declined
on_status sl Unknown = fails UnknownStatus

abbrev pub expect_status : Slot → List ℕ → Expected
expect_status sl b = record { form = status_form b; rule = on_status sl (reaction (status_word b)) }

-- ---- awaits challenge

-- the slot with what the challenge message brings, and the challenge lent to this call, which is sent
abbrev pub challenged : Slot → ℕ → List ℕ → Slot
challenged sl c b =
    record { stage = AwaitsAck; name = sl.name; flags = challenge_flags b; creation = challenge_creation b; challenge = c }

-- "The name must be the one started towards. Writes the reply with the challenge lent to this call, awaits acknowledgement."
abbrev pub expect_challenge : Slot → ℕ → List ℕ → Expected
expect_challenge sl c b =
    record {
      form = challenge_form (name_bytes sl.name) b;
      rule = sure (go (record { slot = challenged sl c b; other = None; writes = reply c (challenge_challenge b) }));
    }

-- ---- awaits acknowledgement

-- "Right digest for the challenge we sent: connected. Wrong: 15."
abbrev pub expect_ack : Slot → List ℕ → Expected
expect_ack sl b =
    record {
      form = ack_form b;
      rule = proven sl.challenge (ack_digest b) (record { slot = moved sl Connected; other = None; writes = plain [] });
    }
