use Rattle.handshake_rules.specs.Plans.{answers, settled, finished, render}
use Rattle.handshake_rules.specs.Cookie.{digest_of}
use Rattle.handshake_rules.specs.Messages.{challenge_challenge, reply_message}
use Rattle.std.specs.Prelude.{None}
use Rattle.handshake_rules.specs.declared.endpoint.Stage.TheVariants.{AwaitsAck}
use Rattle.wire.specs.Output.{written}
use lib.ListN.{length}
use mathlib.Core.List.{List}
use mathlib.Core.Path.{◌≡◌, ap, ◌∙◌}
use Prim.Native.Nat.{ℕ}
use Rattle.handshake_state.specs.Bytes.{endpoint_of}
use Rattle.handshake_connecting.proofs.connecting.on_challenge.Goals as goal

pub returns : goal.returns
unfolding settled finished render
returns c =
    let a = c.args in
    let k = a.cookie.bytes.now in
    let m : c.digest-d.result ≡ digest_of (challenge_challenge a.body.now) k = c.digest-d.ensures ∙ ap (λ (n : ℕ). digest_of n k) c.get.ensures in
    let n = c.send_challenge_reply-count.ensures.value ∙ ap (λ (d : List ℕ). length (reply_message a.challenge d)) m in (
      c.answer.ensures
          ∙ λ i.
          answers (endpoint_of a.state.now) a.at (record { stage = AwaitsAck; name = a.s.name; flags = c.get-flags.ensures i; creation = c.get-creation.ensures i; challenge = a.challenge })
          None (n i),
      c.send_challenge_reply-count.ensures.out_after ∙ ap (λ (d : List ℕ). written (reply_message a.challenge d) a.out.now) m,
    )
