use Rattle.std.proofs.Common.{◌≡◌, [], List, ℕ, subst, rules}
use Rattle.script_lines.specs.State.{script_of}
use Rattle.script_lines.specs.Lines.{PrintedOn}
use Rattle.script_lines.proofs.RunLaws.{printed_on_none, printed_on}
use Rattle.std.proofs.lemmas.List.{nil_from_length}
use Rattle.script_lines.proofs.run.Reading.take_part.Goals as goal

pub loop-rest-init : goal.loop-rest-init
loop-rest-init g c = let a = c.args in printed_on_none (script_of a.self.now.run) a.self.now.held a.part.now (g.W.Write.contents a.to.now)

pub loop-rest-preserved : goal.loop-rest-preserved
loop-rest-preserved g c = let p = c.in_ok-rest.ensures in printed_on _ _ _ _ _ _ _ _ _ _ _ _ c.loop-rest.invariant p.prints p.takes.script p.takes.held p.takes.rest

pub returns-clause-prints : goal.returns-clause-prints
returns-clause-prints g c =
    let a = c.args in
    let l = c.loop-rest in
    let e : l.rest.now ≡ [] = nil_from_length l.rest.now (search rules) in
    subst (λ (x : List ℕ). PrintedOn (script_of a.self.now.run) a.self.now.held a.part.now (script_of l.self.run) l.self.held x (g.W.Write.contents a.to.now) (g.W.Write.contents l.to)) e l.invariant
