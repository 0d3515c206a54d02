use Rattle.std.proofs.Common.{◌≡◌, List, ℕ, [], take, ap, subst, ◌∙◌, arith}
use Rattle.std.proofs.lemmas.Result.{on_ok_weaker}
use Rattle.std.specs.Io.KnownBytes.{Appends}
use Rattle.script_lines.specs.State.{script_of}
use Rattle.script_lines.specs.Lines.{to_print}
use Rattle.script_lines.proofs.AnswerLaws.{front_of, written_holds}
use Rattle.script_lines.proofs.run.Reading.finish.Goals as goal

pub shared_ref_as_front-write_all : goal.shared_ref_as_front-write_all
shared_ref_as_front-write_all g c =
    let f = c.finish-n in
    omega (arith, written_holds _ _ _ f.result f.ensures.out_after f.ensures.value)

pub returns : goal.returns
returns g c =
    let a = c.args in
    let s = script_of a.self.now.run in
    let f = c.finish-n in
    let bytes : take c.finish-n.result c.finish-n.new.out ≡ to_print s a.self.now.held [] =
    front_of _ _ _ f.result f.ensures.out_after f.ensures.value ∙ ap (λ (x : List ℕ). to_print s x []) c.text.ensures in
    on_ok_weaker c.write_all.result (λ (w : Appends (g.W.Write.contents a.to.now) (g.W.Write.contents c.write_all.new.self) (take c.finish-n.result c.finish-n.new.out)). subst (Appends _ _) bytes w) c.write_all.ensures.bytes
