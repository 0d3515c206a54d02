use Prim.Native.Nat.{ℕ, ◌≤◌}
use mathlib.Core.Path.{◌≡◌, refl, sym, ap, ◌∙◌}
use mathlib.Core.List.{List, []}
use native.Mathlib.Omega.{arith}
use lib.ListN.{length, take, replicate}
use lib.Seq.{length-take-le}
use Rattle.std.specs.Prelude.{Ok, Err}
use Rattle.wire.specs.Output.{written}
use Rattle.epmd_rules.specs.State.{Registry}
use Rattle.epmd_rules.specs.Requests.{room}
use Rattle.epmd_rules.specs.Serve.{request_of}
use Rattle.epmd_rules.specs.Serve as mapper
use Rattle.epmd_rules.proofs.Calls.{refusal_keeps}
use Rattle.epmd_state.specs.Bytes.{registry_of}
use Rattle.script_lines.specs.declared.script.Awaits.TheVariants.{Operation}
use Rattle.script_lines.specs.Text.{unhex}
use Rattle.script_lines.specs.Answer.{answer_text}
use Rattle.script_lines.proofs.AnswerLaws.{front_of, written_holds, answer_fits}
use Rattle.script_lines.proofs.ScriptLaws.{reply_holds, answer_text_lem}
use Rattle.script_lines.proofs.script.Run.serve.Goals as goal

pub slice_bounds-frame-end : goal.slice_bounds-frame-end
slice_bounds-frame-end c =
    let g = c.get_hex-n in
    written_holds _ _ g.new.out g.result g.ensures.out_after g.ensures.value

pub slice_bounds-request-end : goal.slice_bounds-request-end
slice_bounds-request-end c =
    let g = c.get_hex-n in
    sym (length-take-le g.result g.new.out (written_holds _ _ g.new.out g.result g.ensures.out_after g.ensures.value))

pub slice_bounds-reply-end : goal.slice_bounds-reply-end
slice_bounds-reply-end c =
    let g = c.get_hex-n in
    let q = c.request.ensures in
    let o : mapper.Outcome = request_of (registry_of c.args.self.now.registry) c.args.connection (take g.result g.new.out) room in
    reply_holds o (Ok c.in-Ok.count) (replicate room 0) _ (sym c.in-Ok.is ∙ q.answer) q.output (refusal_keeps _ _ _ _).count

pub slice_bounds-put_answer-end-in-Ok : goal.slice_bounds-put_answer-end-in-Ok
slice_bounds-put_answer-end-in-Ok c =
    let g = c.get_hex-n in
    let q = c.request.ensures in
    let o : mapper.Outcome = request_of (registry_of c.args.self.now.registry) c.args.connection (take g.result g.new.out) room in
    sym (length-take-le _ _ (reply_holds o (Ok c.in-Ok.count) (replicate room 0) _ (sym c.in-Ok.is ∙ q.answer) q.output (refusal_keeps _ _ _ _).count))

pub put_answer-requires : goal.put_answer-requires
put_answer-requires c =
    let n : ℕ = c.in-Ok.count in
    let y : List ℕ = c.request.new.out in
    let g = c.get_hex-n in
    let q = c.request.ensures in
    let o : mapper.Outcome = request_of (registry_of c.args.self.now.registry) c.args.connection (take g.result g.new.out) room in
    let k : n ≤ length y = reply_holds o (Ok n) (replicate room 0) _ (sym c.in-Ok.is ∙ q.answer) q.output (refusal_keeps _ _ _ _).count in
    let l : length (take n y) ≡ n = length-take-le n y k in
    omega (arith, answer_fits (Ok n) (take n y) (sym l) (omega (arith, l, k)))

pub put_answer-requires-in-Err : goal.put_answer-requires-in-Err
put_answer-requires-in-Err c =
    let e = ap (λ (n : ℕ). length (answer_text n [])) c.number.ensures in
    omega (arith, answer_fits (Err c.in-Err.why) [] refl (omega arith), e)

pub returns-in-Ok : goal.returns-in-Ok
returns-in-Ok c =
    let b = c.args in
    let g = c.get_hex-n in
    let q = c.request.ensures in
    let o : mapper.Outcome = request_of (registry_of b.self.now.registry) b.connection (take g.result g.new.out) room in
    let t = answer_text_lem o (Ok c.in-Ok.count) (replicate room 0) c.request.new.out (sym c.in-Ok.is ∙ q.answer) q.output (refusal_keeps _ _ _ _).count in
    rw (sym (front_of (unhex b.text.now) _ g.new.out g.result g.ensures.out_after g.ensures.value))
    (record {
      script = ap (λ (s : Registry). record { registry = s; awaits = Operation }) q.registry;
      count = c.put_answer.ensures.value ∙ ap length t;
      output = c.put_answer.ensures.out_after ∙ ap (λ (z : List ℕ). written z b.out.now) t;
    })

pub returns-in-Err : goal.returns-in-Err
returns-in-Err c =
    let b = c.args in
    let g = c.get_hex-n in
    let q = c.request.ensures in
    let o : mapper.Outcome = request_of (registry_of b.self.now.registry) b.connection (take g.result g.new.out) room in
    let t = ap (λ (n : ℕ). answer_text n []) c.number.ensures
    ∙ answer_text_lem o (Err c.in-Err.why) (replicate room 0) c.request.new.out (sym c.in-Err.is ∙ q.answer) q.output (refusal_keeps _ _ _ _).count in
    rw (sym (front_of (unhex b.text.now) _ g.new.out g.result g.ensures.out_after g.ensures.value))
    (record {
      script = ap (λ (s : Registry). record { registry = s; awaits = Operation }) q.registry;
      count = c.put_answer-in-Err.ensures.value ∙ ap length t;
      output = c.put_answer-in-Err.ensures.out_after ∙ ap (λ (z : List ℕ). written z b.out.now) t;
    })
