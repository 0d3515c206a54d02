-- `pass_other` meets its contract: the rule is then on what is behind the character.
use Rattle.std.proofs.Common.{◌≡◌, rules, sym, subst, Some, None}
use native.Mathlib.Omega.{arith}
use Rattle.names.specs.Node.{Reaches}
use Rattle.names.proofs.NodeLaws.{Tells, at_other}
use Rattle.names.proofs.node.pass_other.Goals as goal

pub returns-in_err-k : goal.returns-in_err-k
returns-in_err-k c =
    let a = c.args in
    let told = at_other a.s.now a.i c.requires.0 (λ z. omega arith) (λ z. omega arith) c.character.result c.character.ensures in
    let none : c.character.result ≡ None = search rules in
    let out : c.from_residual.result ≡ None = search rules in
    subst (Reaches a.s.now a.i) (sym out) (subst (Tells a.s.now a.i c.requires.0) none told)

pub overflow_add-result : goal.overflow_add-result
overflow_add-result c =
    let a = c.args in
    let told = at_other a.s.now a.i c.requires.0 (λ z. omega arith) (λ z. omega arith) c.character.result c.character.ensures in
    let some : c.character.result ≡ Some c.in_ok-k.k = search rules in
    omega (arith, (subst (Tells a.s.now a.i c.requires.0) some told).1)

pub returns : goal.returns
returns c =
    let a = c.args in
    let told = at_other a.s.now a.i c.requires.0 (λ z. omega arith) (λ z. omega arith) c.character.result c.character.ensures in
    let some : c.character.result ≡ Some c.in_ok-k.k = search rules in
    let p = subst (Tells a.s.now a.i c.requires.0) some told in
    (omega (arith, p.0), p.1, p.2)
