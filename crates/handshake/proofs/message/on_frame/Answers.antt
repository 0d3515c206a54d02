use Rattle.handshake_rules.proofs.StageLaws.{settle, framed_cut, framed_stage}
use Rattle.handshake_rules.specs.Calls.{expected, on_frame}
use Rattle.handshake_rules.specs.Plans.{refused, stage_plan, concluded}
use Rattle.handshake_rules.specs.Endpoint.{slot_at}
use Rattle.handshake_rules.specs.declared.refusal.Refusal.TheVariants.{NotAFrame}
use Rattle.wire.proofs.FrameLaws.{frame_told}
use Rattle.wire.proofs.OutputLaws.{written_none}
use native.Mathlib.Omega.{arith}
use mathlib.Core.List.{List}
use mathlib.Core.Path.{sym, ap, ◌∙◌}
use Prim.Native.Nat.{ℕ}
use Rattle.handshake_state.specs.Bytes.{endpoint_of}
use Rattle.handshake.proofs.message.on_frame.Goals as goal

pub returns-then-not-is_frame : goal.returns-then-not-is_frame
returns-then-not-is_frame c =
    let a = c.args in
    let k = a.cookie.now in
    settle (on_frame k k (endpoint_of a.state.now) a.at a.stage a.frame.now a.challenge) (refused (endpoint_of a.state.now) a.at NotAFrame)
    (framed_cut k k (endpoint_of a.state.now) a.at a.stage a.frame.now a.challenge (sym c.is_frame.ensures ∙ c.if-not-is_frame.true)) a.out.now c.refuse.ensures
    (sym (written_none a.out.now))

pub body_of-requires : goal.body_of-requires
body_of-requires c = omega (arith, (frame_told c.args.frame.now (sym c.is_frame.ensures ∙ c.if-not-is_frame.false)).0)

pub returns : goal.returns
returns c =
    let a = c.args in
    let k = a.cookie.now in
    settle (on_frame k k (endpoint_of a.state.now) a.at a.stage a.frame.now a.challenge)
    (concluded k k (endpoint_of a.state.now) a.at (stage_plan (expected (endpoint_of a.state.now) (slot_at (endpoint_of a.state.now) a.at) a.challenge c.body_of.result.now a.stage)))
    (framed_stage k k (endpoint_of a.state.now) a.at a.stage a.frame.now a.challenge (sym c.is_frame.ensures ∙ c.if-not-is_frame.false)
    ∙ ap (λ (b : List ℕ). concluded k k (endpoint_of a.state.now) a.at (stage_plan (expected (endpoint_of a.state.now) (slot_at (endpoint_of a.state.now) a.at) a.challenge b a.stage))) (sym c.body_of.ensures))
    a.out.now c.by_stage.ensures.0 c.by_stage.ensures.1
