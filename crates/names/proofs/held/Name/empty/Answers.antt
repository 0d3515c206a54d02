use mathlib.Core.Path.{sym}
use Rattle.names.proofs.HeldLaws.{name_empty}
use Rattle.names.proofs.held.Name.empty.Goals as goal

pub returns : goal.returns
returns c = sym name_empty
