use Rattle.std.proofs.Common.{List, ℕ, length, arith, ap, sym, subst}
use Rattle.std.specs.Io.KnownBytes.{Appends}
use Rattle.std.proofs.KnownBytes.{Appends-nil}
use Rattle.script_lines.specs.State.{script_of}
use Rattle.script_lines.specs.Lines.{take_of}
use Rattle.script_lines.proofs.AnswerLaws.{front_of, written_holds}
use Rattle.std.proofs.lemmas.List.{nil_from_length}
use Rattle.script_lines.proofs.TakeLaws.{take_goes}
use Rattle.script_lines.proofs.run.Reading.take_line.Goals as goal
use Rattle.script_lines.proofs.run.Reading.take_line.Goals.{then-n-gt0+in_ok-write_all, else-n-gt0}

pub shared_ref_as_front-write_all : goal.shared_ref_as_front-write_all
shared_ref_as_front-write_all g c =
    let p = c.take-n in
    omega (arith, written_holds _ _ _ p.result.0 p.ensures.output p.ensures.count)

pub returns-clause-goes : goal.returns-clause-goes
returns-clause-goes g c =
    let a = c.args in
    omega (arith, ap length c.take-n.ensures.rest, take_goes (script_of a.self.now.run) a.self.now.held a.part.now (omega arith))

pub returns-clause-prints : goal.returns-clause-prints
returns-clause-prints g c =
    let a = c.args in
    let t = c.take-n.ensures in
    let bytes : List ℕ = (take_of (script_of a.self.now.run) a.self.now.held a.part.now).bytes in
    elim c.if-n-gt0.branch [
      | then-n-gt0+in_ok-write_all w ↦
          subst (λ (v : _). Appends (g.W.Write.contents a.to.now) (g.W.Write.contents v) bytes) (sym w.to-is)
          (subst (Appends (g.W.Write.contents a.to.now) (g.W.Write.contents w.write_all.new.self)) (front_of _ _ _ c.take-n.result.0 t.output t.count) w.in_ok-write_all.ensures.bytes)
      | else-n-gt0 w ↦
          subst (λ (v : _). Appends (g.W.Write.contents a.to.now) (g.W.Write.contents v) bytes) (sym w.to-is)
          (subst (Appends _ _) (sym (nil_from_length bytes (omega (arith, t.count, w.if-n-gt0.false)))) (Appends-nil (g.W.Write.contents a.to.now)))
    ]
