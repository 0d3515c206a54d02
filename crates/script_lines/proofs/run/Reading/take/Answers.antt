use Prim.Native.Nat.{ℕ, suc, ◌+◌}
use mathlib.Core.Path.{◌≡◌, refl, sym, ap, ◌∙◌}
use mathlib.Core.List.{List, ◌++◌}
use native.Mathlib.Omega.{arith}
use lib.ListN.{length, take, drop, drop_of_length-le}
use Rattle.wire.specs.Output.{written}
use Rattle.wire.proofs.OutputLaws.{written_none}
use Rattle.wire.proofs.RunLaws.{rest}
use Rattle.script_lines.specs.State.{script_of}
use Rattle.script_lines.specs.Script.{line_of}
use Rattle.script_lines.specs.Lines.{up_to, kept}
use Rattle.script_lines.proofs.TakeLaws.{up_front, newline, no_newline, take_line, take_part}
use Rattle.script_lines.proofs.run.Reading.take.Goals as goal

pub returns-in-None : goal.returns-in-None
returns-in-None c =
    let a = c.args in
    let p : List ℕ = a.part.now in
    let none = no_newline p (sym c.line_end.ensures ∙ c.in-None.is) in
    rw (take_part (script_of a.self.now.run) a.self.now.held p none)
    (record { script = refl; held = c.hold.ensures; count = refl; rest = rest (length p) p ∙ drop_of_length-le p (omega arith); output = sym (written_none a.out.now) })

pub returns-in-Some : goal.returns-in-Some
returns-in-Some c =
    let a = c.args in
    let p : List ℕ = a.part.now in
    let s = script_of a.self.now.run in
    let end : ℕ = c.in-Some.end in
    let some = newline p end (sym c.line_end.ensures ∙ c.in-Some.is) in
    let k : c.text.result.now ≡ kept (a.self.now.held ++ up_to p) =
    c.text.ensures ∙ c.hold-in-Some.ensures ∙ ap (λ (n : ℕ). kept (a.self.now.held ++ take n p)) some.1 ∙ ap (λ (x : List ℕ). kept (a.self.now.held ++ x)) (up_front p) in
    let next : end + 1 ≡ suc (length (up_to p)) = omega (arith, some.1) in
    let w = c.step-n.ensures in
    rw (take_line s a.self.now.held p some.0) (record {
      script = w.script ∙ ap (λ (y : List ℕ). (line_of s y).script) k;
      held = c.clear.ensures;
      count = w.count ∙ ap (λ (y : List ℕ). length (line_of s y).bytes) k;
      rest = rest (end + 1) p ∙ ap (λ (j : ℕ). drop j p) next;
      output = w.output ∙ ap (λ (y : List ℕ). written (line_of s y).bytes a.out.now) k;
    })
