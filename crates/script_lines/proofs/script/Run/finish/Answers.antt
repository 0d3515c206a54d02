use Prim.Native.Nat.{ℕ}
use mathlib.Core.Path.{◌≡◌, sym, ap, ap₂, ◌∙◌}
use mathlib.Core.List.{List, [], ◌++◌, append-nil}
use lib.ListN.{length}
use Rattle.std.proofs.lemmas.List.{nil_from_length}
use Rattle.wire.specs.Output.{written}
use Rattle.wire.proofs.OutputLaws.{written_none}
use Rattle.script_lines.specs.State.{Script, script_of}
use Rattle.script_lines.specs.Script.{line_of, ending}
use Rattle.script_lines.specs.Lines.{to_print}
use Rattle.script_lines.proofs.ScriptLaws.{last_none, last_line, last_said}
use Rattle.script_lines.proofs.script.Run.finish.Goals as goal

pub returns-then-held-eq0 : goal.returns-then-held-eq0
returns-then-held-eq0 c =
    let a = c.args in
    rw (last_none (script_of a.self.now) a.held.now c.if-held-eq0.true) c.end.ensures

pub returns-then-n-eq0 : goal.returns-then-n-eq0
returns-then-n-eq0 c =
    let a = c.args in
    let s = script_of a.self.now in
    let l = a.held.now in
    let w = c.step-n.ensures in
    let none : (line_of s l).bytes ≡ [] = nil_from_length (line_of s l).bytes (sym w.count ∙ c.if-n-eq0.true) in
    let t : to_print s l [] ≡ ending c.step-n.new.self.awaits =
    last_line s l c.if-held-eq0.false ∙ ap₂ (λ (x : List ℕ) (z : Script). x ++ ending z.awaits) none (sym w.script) in
    let e = c.end-then-n-eq0.ensures in
    record {
      value = e.value ∙ ap length (sym t);
      out_after = e.out_after ∙ ap₂ (λ (x y : List ℕ). written x y) (sym t) (w.output ∙ ap (λ (x : List ℕ). written x a.out.now) none ∙ written_none a.out.now);
    }

pub returns : goal.returns
returns c =
    let a = c.args in
    let s = script_of a.self.now in
    let l = a.held.now in
    let w = c.step-n.ensures in
    let t : to_print s l [] ≡ (line_of s l).bytes =
    last_line s l c.if-held-eq0.false ∙ ap (λ (x : List ℕ). (line_of s l).bytes ++ x) (last_said s l (λ (z : length (line_of s l).bytes ≡ 0). c.if-n-eq0.false (w.count ∙ z)))
    ∙ append-nil (line_of s l).bytes in
    record {
      value = w.count ∙ ap length (sym t);
      out_after = w.output ∙ ap (λ (x : List ℕ). written x a.out.now) (sym t);
    }
