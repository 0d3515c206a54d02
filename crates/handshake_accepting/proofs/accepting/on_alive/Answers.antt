use Rattle.handshake_rules.proofs.StageLaws.{settle_any}
use Rattle.handshake_rules.specs.Accepting.{on_alive}
use Rattle.handshake_rules.specs.Plans.{answers, answered, refused, settled, finished, render, concluded, sent, challenge_of}
use Rattle.handshake_rules.specs.Endpoint.{free_slot, slot_at}
use Rattle.std.specs.Prelude.{None}
use Rattle.handshake_rules.specs.declared.endpoint.Slot.{Slot}
use Rattle.handshake_rules.specs.declared.endpoint.Stage.TheVariants.{AwaitsReply}
use Rattle.handshake_rules.specs.declared.refusal.Refusal.TheVariants.{UnknownStatus}
use Rattle.wire.proofs.OutputLaws.{written_none}
use mathlib.Core.List.{[]}
use Rattle.handshake_rules.specs.Messages.{true_word, false_word}
use Rattle.wire.proofs.RunLaws.{same_std}
use Rattle.wire.specs.Run.{same_bytes}
use Rattle.std.specs.Cmp.Lexicographic.{pointwise}
use lib.Dec.{eqb}
use mathlib.Core.Path.{◌≡◌, sym, ap, ◌∙◌}
use Rattle.handshake_state.specs.Bytes.{endpoint_of}
use Rattle.handshake_accepting.proofs.accepting.on_alive.Goals as goal

pub returns-then-eq : goal.returns-then-eq
unfolding settled finished render
returns-then-eq c =
    let a = c.args in
    let yes : same_bytes a.word.now true_word ≡ c.eq.result = sym (c.eq.ensures ∙ ap (pointwise eqb a.word.now) c.as_slice.ensures ∙ same_std a.word.now true_word) in
    settle_any (λ k. concluded k k (endpoint_of a.state.now) a.at (on_alive (endpoint_of a.state.now) (slot_at (endpoint_of a.state.now) a.at) a.challenge a.word.now))
    (λ k. answered (endpoint_of a.state.now) a.at (sent (slot_at (endpoint_of a.state.now) a.at) AwaitsReply a.challenge) None (challenge_of (endpoint_of a.state.now) a.challenge))
    (λ k. rw (yes ∙ c.if-eq.true)) a.out.now (λ k. c.challenge_peer.ensures.0) (λ k. c.challenge_peer.ensures.1)

pub returns-then-eq-2 : goal.returns-then-eq-2
unfolding settled finished render
returns-then-eq-2 c =
    let a = c.args in
    let yes : same_bytes a.word.now true_word ≡ c.eq.result = sym (c.eq.ensures ∙ ap (pointwise eqb a.word.now) c.as_slice.ensures ∙ same_std a.word.now true_word) in
    let no : same_bytes a.word.now false_word ≡ c.eq-2.result = sym (c.eq-2.ensures ∙ ap (pointwise eqb a.word.now) c.as_slice-2.ensures ∙ same_std a.word.now false_word) in
    settle_any (λ k. concluded k k (endpoint_of a.state.now) a.at (on_alive (endpoint_of a.state.now) (slot_at (endpoint_of a.state.now) a.at) a.challenge a.word.now))
    (λ k. answered (endpoint_of a.state.now) a.at free_slot None [])
    (λ k. rw (yes ∙ c.if-eq.false, no ∙ c.if-eq-2.true)) a.out.now
    (λ k. c.answer.ensures ∙ ap (λ (s : Slot). answers (endpoint_of a.state.now) a.at s None 0) c.default.ensures) (λ k. sym (written_none a.out.now))

pub returns : goal.returns
unfolding settled finished render
returns c =
    let a = c.args in
    let yes : same_bytes a.word.now true_word ≡ c.eq.result = sym (c.eq.ensures ∙ ap (pointwise eqb a.word.now) c.as_slice.ensures ∙ same_std a.word.now true_word) in
    let no : same_bytes a.word.now false_word ≡ c.eq-2.result = sym (c.eq-2.ensures ∙ ap (pointwise eqb a.word.now) c.as_slice-2.ensures ∙ same_std a.word.now false_word) in
    settle_any (λ k. concluded k k (endpoint_of a.state.now) a.at (on_alive (endpoint_of a.state.now) (slot_at (endpoint_of a.state.now) a.at) a.challenge a.word.now))
    (λ k. refused (endpoint_of a.state.now) a.at UnknownStatus)
    (λ k. rw (yes ∙ c.if-eq.false, no ∙ c.if-eq-2.false)) a.out.now
    (λ k. c.refuse.ensures) (λ k. sym (written_none a.out.now))
