-- `is_full_name` meets its contract: its tests are the definition's.
use Rattle.std.proofs.Common.{rules}
use Rattle.names.specs.Full.{full_name}
use Rattle.names.proofs.full.is_full_name.Goals as goal

pub returns-then-s-ne64 : goal.returns-then-s-ne64
unfolding full_name
returns-then-s-ne64 c = search rules

pub returns-else-s-ne64 : goal.returns-else-s-ne64
unfolding full_name
returns-else-s-ne64 c = search rules
