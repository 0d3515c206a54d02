use Rattle.handshake_rules.proofs.MessageLaws.{status_size}
use Rattle.handshake_rules.specs.Accepting.{welcomes}
use Rattle.handshake_rules.specs.Plans.{answers, challenge_of}
use Rattle.handshake_rules.specs.Messages.{status_message}
use Rattle.handshake_rules.specs.State.{Endpoint}
use Rattle.wire.proofs.OutputLaws.{overwrite_next}
use Rattle.wire.specs.Output.{overwrite}
use lib.ListN.{length, length-append}
use native.Mathlib.Omega.{arith}
use mathlib.Core.List.{List}
use mathlib.Core.Path.{◌≡◌, sym, ap, ap₂, ◌∙◌}
use Prim.Native.Nat.{ℕ, ◌+◌}
use Rattle.handshake_state.specs.Bytes.{endpoint_of}
use Rattle.handshake_accepting.proofs.accepting.welcome.Goals as goal

pub send_own_challenge-m-requires : goal.send_own_challenge-m-requires
send_own_challenge-m-requires c = (omega (arith, c.send_status-n.ensures.value, status_size c.args.word.now, c.requires.0), omega (arith, c.send_status-n.auto, c.requires.1))

pub overflow_add-n : goal.overflow_add-n
overflow_add-n c = record { fits = omega (arith, c.send_status-n.ensures.value, status_size c.args.word.now, c.requires.0, c.send_own_challenge-m.ensures.bound) }

pub returns : goal.returns
returns c =
    let a = c.args in
    let g = endpoint_of a.state.now in
    let n = c.send_status-n.result in
    let m = c.send_own_challenge-m.result in
    let w = status_message a.word.now in
    let h = challenge_of g a.challenge in
    let e : n + m ≡ length (welcomes g a.word.now a.challenge) = omega (arith, c.send_status-n.ensures.value, c.send_own_challenge-m.ensures.value, length-append w h) in (
      c.answer.ensures ∙ ap₂ (λ (x : Endpoint) (k : ℕ). answers x a.at a.slot a.freed k) c.free_other.ensures e,
      c.send_own_challenge-m.ensures.out_after ∙ ap (λ (x : List ℕ). overwrite x n h) c.send_status-n.ensures.out_after ∙ overwrite_next a.out.now n w h (sym c.send_status-n.ensures.value),
    )
