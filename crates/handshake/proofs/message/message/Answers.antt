-- The slot's stage and the chosen cookie stand for their definitions; the early check decides between a refusal and the frame.
use Rattle.std.proofs.lemmas.Result.{err_from_is_err_and}
use Rattle.handshake_rules.proofs.StageLaws.{settle, message_kept, message_framed}
use Rattle.handshake_rules.specs.Calls.{early_tests, on_frame, message_of, silent, kept}
use Rattle.handshake_rules.specs.Cookie.{Cookies, cookies, fit}
use Rattle.handshake_rules.specs.Refusals.{Check, checked}
use Rattle.handshake_rules.specs.declared.endpoint.Stage.{Stage}
use Rattle.wire.proofs.OutputLaws.{written_none}
use lib.ListN.{length}
use mathlib.Core.List.{List}
use mathlib.Core.Path.{refl, sym, ap₂, ◌∙◌}
use Prim.Native.Nat.{ℕ}
use Rattle.handshake_state.specs.Bytes.{endpoint_of}
use Rattle.handshake.proofs.message.message.Goals as goal

pub returns-in_err-check_early : goal.returns-in_err-check_early
returns-in_err-check_early c =
    let a = c.args in
    let g = endpoint_of a.state.now in
    let n = length a.out.now in
    let r = c.in_err-check_early.field-0.0 in
    let k : Cookies = cookies a.own.now a.standard.now in
    let E : Stage → List ℕ → Check = λ s x. checked (early_tests a.slot s n (fit s x x)) in
    let e = ap₂ E (sym c.stage_at-stage.ensures) (sym c.choose-cookie.ensures) ∙ sym c.check_early.ensures ∙ c.in_err-check_early.was in
    let p = err_from_is_err_and c.from_residual.result c.from_residual.ensures.1 in
    rw (p.1, p.2)
    (settle (message_of k g a.slot a.frame.now a.challenge n) (silent (kept g r)) (message_kept k g a.slot a.frame.now a.challenge n r e) a.out.now refl
    (sym (written_none a.out.now)))

pub returns : goal.returns
returns c =
    let a = c.args in
    let g = endpoint_of a.state.now in
    let n = length a.out.now in
    let x = c.choose-cookie.result.now in
    let s = c.stage_at-stage.result in
    let k : Cookies = cookies a.own.now a.standard.now in
    let E : Stage → List ℕ → Check = λ s x. checked (early_tests a.slot s n (fit s x x)) in
    let e = ap₂ E (sym c.stage_at-stage.ensures) (sym c.choose-cookie.ensures) ∙ sym c.check_early.ensures ∙ c.in_ok-check_early.was in
    settle (message_of k g a.slot a.frame.now a.challenge n) (on_frame x x g a.slot s a.frame.now a.challenge)
    (message_framed k g a.slot a.frame.now a.challenge n e
    ∙ ap₂ (λ (t : Stage) (y : List ℕ). on_frame y y g a.slot t a.frame.now a.challenge) (sym c.stage_at-stage.ensures) (sym c.choose-cookie.ensures))
    a.out.now c.on_frame.ensures.0 c.on_frame.ensures.1
