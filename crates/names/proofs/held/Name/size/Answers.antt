use Rattle.names.specs.Held.{name_bytes}
use Rattle.names.proofs.HeldLaws.{name_length}
use borrow.Author.Rules.{rules}
use Rattle.names.proofs.held.Name.size.Goals as goal

pub returns-clause-value : goal.returns-clause-value
unfolding name_bytes
returns-clause-value c = name_length c.args.self (search rules) (search rules)
