use Rattle.handshake_rules.specs.Plans.{answers, sent, challenge_of}
use Rattle.std.specs.Prelude.{None}
use Rattle.handshake_rules.specs.declared.endpoint.Slot.{Slot}
use Rattle.handshake_rules.specs.declared.endpoint.Stage.TheVariants.{AwaitsReply}
use Rattle.wire.proofs.OutputLaws.{overwrite_front}
use mathlib.Core.Path.{ap, ap₂, ◌∙◌}
use Prim.Native.Nat.{ℕ}
use Rattle.handshake_state.specs.Bytes.{endpoint_of}
use Rattle.handshake_accepting.proofs.accepting.challenge_peer.Goals as goal

pub returns : goal.returns
returns c =
    let a = c.args in
    let g = endpoint_of a.state.now in (
      c.answer.ensures
          ∙ ap₂ (λ (t : Slot) (n : ℕ). answers g a.at t None n)
          (c.sent-next.ensures ∙ ap (λ (s : Slot). sent s AwaitsReply a.challenge) c.slot.ensures) c.send_own_challenge-count.ensures.value,
      c.send_own_challenge-count.ensures.out_after ∙ overwrite_front a.out.now (challenge_of g a.challenge),
    )
