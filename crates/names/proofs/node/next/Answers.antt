-- `next` meets its contract: by what is passed from i on.
use native.Mathlib.Omega.{arith}
use Rattle.names.proofs.NodeLaws.{past_plain, reach_on}
use Rattle.names.proofs.node.next.Goals as goal

pub returns-then-j-s : goal.returns-then-j-s
returns-then-j-s c =
    let p = c.pass_plain-j in
    let q = p.ensures in
    (omega (arith, c.requires), q.inside, past_plain c.args.s.now c.args.i p.result q.onward q.inside q.passed)

pub returns : goal.returns
returns c =
    let a = c.args in
    let p = c.pass_plain-j in
    let q = p.ensures in
    reach_on a.s.now a.i p.result c.walk.result q.onward (past_plain a.s.now a.i p.result q.onward q.inside q.passed) c.walk.ensures
