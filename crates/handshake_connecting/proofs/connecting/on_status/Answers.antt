use Rattle.handshake_rules.proofs.StageLaws.{settle_any}
use Rattle.handshake_rules.specs.Connecting.{reaction, on_status}
use Rattle.handshake_rules.specs.Plans.{Done, answers, answered, refused, settled, finished, render, concluded, moved}
use Rattle.handshake_rules.specs.Messages.{status_message, true_word}
use Rattle.handshake_rules.specs.Endpoint.{slot_at}
use Rattle.handshake_rules.specs.declared.connecting.Reaction.{Reaction}
use Rattle.std.specs.Prelude.{None}
use Rattle.handshake_rules.specs.declared.endpoint.Slot.{Slot}
use Rattle.handshake_rules.specs.declared.endpoint.Stage.TheVariants.{AwaitsChallenge}
use Rattle.handshake_rules.specs.declared.refusal.Refusal.TheVariants.{UnknownStatus, Declined}
use Rattle.wire.proofs.OutputLaws.{written_none}
use mathlib.Core.List.{List, []}
use mathlib.Core.Path.{sym, ap, ◌∙◌}
use Prim.Native.Nat.{ℕ}
use Rattle.handshake_state.specs.Bytes.{endpoint_of}
use Rattle.handshake_connecting.proofs.connecting.on_status.Goals as goal

pub returns-in-Proceed : goal.returns-in-Proceed
unfolding settled finished render
returns-in-Proceed c =
    let a = c.args in
    let sl = slot_at (endpoint_of a.state.now) a.at in
    let d : Reaction → List ℕ → Done = λ x k. concluded k k (endpoint_of a.state.now) a.at (on_status sl x) in
    let e = sym c.reaction_to.ensures ∙ c.in-Proceed.is in
    let t = c.sent-t.ensures ∙ ap (λ (s : Slot). moved s AwaitsChallenge) c.slot-s.ensures in
    settle_any (d (reaction a.word.now)) (λ k. answered (endpoint_of a.state.now) a.at (moved sl AwaitsChallenge) None []) (λ k. ap (λ (x : Reaction). d x k) e) a.out.now
    (λ k. c.answer.ensures ∙ ap (λ (s : Slot). answers (endpoint_of a.state.now) a.at s None 0) t) (λ k. sym (written_none a.out.now))

pub returns-in-Confirm : goal.returns-in-Confirm
unfolding settled finished render
returns-in-Confirm c =
    let a = c.args in
    let sl = slot_at (endpoint_of a.state.now) a.at in
    let d : Reaction → List ℕ → Done = λ x k. concluded k k (endpoint_of a.state.now) a.at (on_status sl x) in
    let e = sym c.reaction_to.ensures ∙ c.in-Confirm.is in
    let t = c.sent-t.ensures ∙ ap (λ (s : Slot). moved s AwaitsChallenge) c.slot-s.ensures in
    settle_any (d (reaction a.word.now)) (λ k. answered (endpoint_of a.state.now) a.at (moved sl AwaitsChallenge) None (status_message true_word)) (λ k. ap (λ (x : Reaction). d x k) e) a.out.now
    (λ k. c.say.ensures.0 ∙ ap (λ (s : Slot). (answered (endpoint_of a.state.now) a.at s None (status_message true_word)).told) t) (λ k. c.say.ensures.1)

pub returns-in-GiveUp : goal.returns-in-GiveUp
unfolding settled finished render
returns-in-GiveUp c =
    let a = c.args in
    let d : Reaction → List ℕ → Done = λ x k. concluded k k (endpoint_of a.state.now) a.at (on_status (slot_at (endpoint_of a.state.now) a.at) x) in
    let e = sym c.reaction_to.ensures ∙ c.in-GiveUp.is in
    settle_any (d (reaction a.word.now)) (λ k. refused (endpoint_of a.state.now) a.at Declined) (λ k. ap (λ (x : Reaction). d x k) e) a.out.now
    (λ k. c.refuse.ensures) (λ k. sym (written_none a.out.now))

pub returns-in-Unknown : goal.returns-in-Unknown
unfolding settled finished render
returns-in-Unknown c =
    let a = c.args in
    let d : Reaction → List ℕ → Done = λ x k. concluded k k (endpoint_of a.state.now) a.at (on_status (slot_at (endpoint_of a.state.now) a.at) x) in
    let e = sym c.reaction_to.ensures ∙ c.in-Unknown.is in
    settle_any (d (reaction a.word.now)) (λ k. refused (endpoint_of a.state.now) a.at UnknownStatus) (λ k. ap (λ (x : Reaction). d x k) e) a.out.now
    (λ k. c.refuse-in-Unknown.ensures) (λ k. sym (written_none a.out.now))
