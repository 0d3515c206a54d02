-- `is_node_name` meets its contract: plain bytes at its start keep the rule, and of what is behind them `is_node_text` tells.
use mathlib.Core.Path.{sym, ap, ◌∙◌}
use native.Mathlib.Omega.{arith}
use borrow.Author.Tests.{eq-eqb}
use Rattle.std.proofs.Common.{rules}
use Rattle.wire.proofs.RunLaws.{rest}
use Rattle.names.specs.Node.{node_name, node_text}
use Rattle.names.proofs.NodeLaws.{text_end, name_past}
use Rattle.names.proofs.node.is_node_name.Goals as goal

pub returns-then-n-lt1 : goal.returns-then-n-lt1
unfolding node_name
returns-then-n-lt1 c = search rules

pub returns-then-i-n : goal.returns-then-i-n
returns-then-i-n c =
    let s = c.args.s.now in
    let p = c.pass_start-i in
    let q = p.ensures in
    eq-eqb _ _ c.if-i-n.true ∙ sym (name_past s p.result (omega arith) (omega arith) q.inside q.passed ∙ text_end s p.result (omega arith))

pub returns-else-i-n : goal.returns-else-i-n
returns-else-i-n c =
    let s = c.args.s.now in
    let p = c.pass_start-i in
    let q = p.ensures in
    c.is_node_text.ensures ∙ ap node_text (rest p.result s) ∙ sym (name_past s p.result (omega arith) (omega arith) q.inside q.passed)
