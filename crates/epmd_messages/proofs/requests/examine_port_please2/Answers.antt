use mathlib.Core.Path.{sym, ap, ◌∙◌}
use borrow.Author.Tests.{not-true, not-false}
use Rattle.wire.proofs.RunLaws.{rest}
use Rattle.names.specs.Node.{node_name}
use Rattle.epmd_rules.proofs.RequestLaws.{port2_name, port2_asked}
use Rattle.epmd_messages.proofs.requests.examine_port_please2.Goals as goal

pub returns-then-not-is_node_name : goal.returns-then-not-is_node_name
returns-then-not-is_node_name c =
    let b = c.args.body.now in
    sym (port2_name b c.requires.1 (ap node_name (sym (rest 1 b)) ∙ sym c.is_node_name.ensures ∙ not-true _ c.if-not-is_node_name.true-raw))

pub returns : goal.returns
returns c =
    let b = c.args.body.now in
    sym (port2_asked b c.requires.1 (ap node_name (sym (rest 1 b)) ∙ sym c.is_node_name.ensures ∙ not-false _ c.if-not-is_node_name.false-raw))
