-- `is_node_text` meets its contract: the rule on the whole run is the rule on what is left of it.
use mathlib.Core.Path.{sym, ◌∙◌}
use native.Mathlib.Omega.{arith}
use Rattle.names.proofs.NodeLaws.{text_end}
use Rattle.names.proofs.node.is_node_text.Goals as goal

pub returns : goal.returns
returns c =
    let l = c.loop-i in
    sym (l.invariant.1 ∙ text_end c.args.s.now l.i (omega arith))
