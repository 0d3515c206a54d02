-- The verdict on the digest is that of the challenge that we sent.
use Rattle.handshake_rules.proofs.StageLaws.{proven_right, proven_wrong}
use Rattle.handshake_rules.specs.Plans.{Done, plain, Act, answers, render, moved}
use Rattle.handshake_rules.specs.Endpoint.{slot_at}
use Rattle.std.specs.Prelude.{None}
use Rattle.handshake_rules.specs.declared.endpoint.Slot.{Slot}
use Rattle.handshake_rules.specs.declared.endpoint.Stage.TheVariants.{Connected}
use Rattle.wire.proofs.RunLaws.{part_length}
use lib.ListN.{length}
use native.Mathlib.Omega.{arith}
use mathlib.Core.List.{[]}
use mathlib.Core.Path.{sym, ap, ◌∙◌}
use Rattle.handshake_state.specs.Bytes.{endpoint_of}
use Rattle.handshake_connecting.proofs.connecting.on_challenge_ack.Goals as goal

pub is_digest-requires : goal.is_digest-requires
is_digest-requires c = (ap length c.get_part.ensures ∙ part_length 1 16 c.args.body.now (omega (arith, c.requires)), c.args.cookie.short)

-- what is due where the digest is right
abbrev act : Slot → Act
act sl = record { slot = moved sl Connected; other = None; writes = plain [] }

pub returns-then-not-is_digest : goal.returns-then-not-is_digest
returns-then-not-is_digest c =
    let a = c.args in
    let k = a.cookie.bytes.now in
    let sl = slot_at (endpoint_of a.state.now) a.at in
    c.refuse.ensures ∙ sym (ap (λ (d : Done). d.told) (proven_wrong k k (endpoint_of a.state.now) a.at (act sl) c.get_part.ensures c.slot-s.ensures c.is_digest.ensures c.if-not-is_digest.true))

pub returns : goal.returns
unfolding render
returns c =
    let a = c.args in
    let k = a.cookie.bytes.now in
    let sl = slot_at (endpoint_of a.state.now) a.at in
    c.answer.ensures ∙ ap (λ (s : Slot). answers (endpoint_of a.state.now) a.at s None 0) (c.sent-t.ensures ∙ ap (λ (s : Slot). moved s Connected) c.slot-s.ensures)
    ∙ sym (ap (λ (d : Done). d.told) (proven_right k k (endpoint_of a.state.now) a.at (act sl) c.get_part.ensures c.slot-s.ensures c.is_digest.ensures c.if-not-is_digest.false))
