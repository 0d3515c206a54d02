use Rattle.names.proofs.HeldLaws.{held}
use Rattle.names.proofs.held.Name.of.Goals as goal

pub returns : goal.returns
returns c = held c.copy_from_slice.ensures.after
