-- `walk` meets its contract: the rule on what is behind i is the rule on what is behind j.
use mathlib.Core.Path.{◌∙◌}
use mathlib.Core.Logic.{⊎_elim}
use native.Mathlib.Omega.{arith}
use lib.ListN.{get_or}
use Rattle.std.proofs.Common.{rules}
use Rattle.names.proofs.NodeLaws.{at_zero, at_sign, at_plain, plain_byte_lem}
use Rattle.names.proofs.node.walk.Goals as goal

pub returns-in-0 : goal.returns-in-0
returns-in-0 c =
    let s = c.args.s.now in
    let l = c.loop-j in
    l.invariant ∙ ⊎_elim (at_zero s l.j (omega arith)) (at_sign s l.j (omega arith)) c.in-0.is

pub loop-j-preserved : goal.loop-j-preserved
loop-j-preserved c =
    let s = c.args.s.now in
    let l = c.loop-j in
    l.invariant ∙ at_plain s l.j (omega arith) (plain_byte_lem (get_or s l.j 0) (search rules) (search rules) (search rules))
