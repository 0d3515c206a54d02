use Prim.Native.Nat.{ℕ}
use mathlib.Core.Path.{refl, sym, ap, ◌∙◌}
use mathlib.Core.List.{List}
use native.Mathlib.Omega.{arith}
use lib.ListN.{length, length-drop}
use Rattle.wire.specs.Output.{written}
use Rattle.wire.proofs.RunLaws.{rest}
use Rattle.wire.proofs.OutputLaws.{written_none}
use Rattle.epmd_rules.specs.Requests.{room}
use Rattle.epmd_rules.specs.Serve.{request_of}
use Rattle.epmd_state.specs.Bytes.{registry_of}
use Rattle.script_lines.specs.State.{script_of}
use Rattle.script_lines.specs.Text.{unhex}
use Rattle.script_lines.specs.Script.{answered}
use Rattle.script_lines.proofs.ScriptLaws.{serve_line, line_plan}
use Rattle.script_lines.proofs.script.Run.step.Goals as goal

pub slice_bounds-serve-count : goal.slice_bounds-serve-count
slice_bounds-serve-count c = (serve_line (script_of c.args.self.now) c.args.line.now _ _ _ c.item_of.ensures c.plan_of.ensures c.in-Serve.is).key

pub slice_bounds-serve-start : goal.slice_bounds-serve-start
slice_bounds-serve-start c = (serve_line (script_of c.args.self.now) c.args.line.now _ _ _ c.item_of.ensures c.plan_of.ensures c.in-Serve.is).key

pub serve-requires : goal.serve-requires
serve-requires c =
    let h = serve_line (script_of c.args.self.now) c.args.line.now _ _ _ c.item_of.ensures c.plan_of.ensures c.in-Serve.is in
    rw (rest 4 c.args.line.now) (h.text, simp length-drop (omega (arith, h.short)))

pub returns-in-Await : goal.returns-in-Await
returns-in-Await c =
    let e = line_plan (script_of c.args.self.now) c.args.line.now _ _ _ c.item_of.ensures c.plan_of.ensures c.in-Await.is in
    rw e (record { script = refl; count = refl; output = sym (written_none c.args.out.now) })

pub returns-in-Serve : goal.returns-in-Serve
returns-in-Serve c =
    let a = c.args in
    let g = registry_of a.self.now.registry in
    let n : ℕ = c.in-Serve.connection in
    let w = c.serve.ensures in
    let l = rest 4 a.line.now in
    let e = line_plan (script_of a.self.now) a.line.now _ _ _ c.item_of.ensures c.plan_of.ensures c.in-Serve.is in
    rw e
    (record {
      script = w.script ∙ ap (λ (x : List ℕ). (answered (request_of g n (unhex x) room)).script) l;
      count = w.count ∙ ap (λ (x : List ℕ). length (answered (request_of g n (unhex x) room)).bytes) l;
      output = w.output ∙ ap (λ (x : List ℕ). written (answered (request_of g n (unhex x) room)).bytes a.out.now) l;
    })

pub returns-in-Fail : goal.returns-in-Fail
returns-in-Fail c =
    let e = line_plan (script_of c.args.self.now) c.args.line.now _ _ _ c.item_of.ensures c.plan_of.ensures c.in-Fail.is in
    rw e (record { script = refl; count = c.fail.ensures.value; output = c.fail.ensures.out_after })

pub returns-in-Rest : goal.returns-in-Rest
returns-in-Rest c =
    let e = line_plan (script_of c.args.self.now) c.args.line.now _ _ _ c.item_of.ensures c.plan_of.ensures c.in-Rest.is in
    rw e (record { script = refl; count = refl; output = sym (written_none c.args.out.now) })
