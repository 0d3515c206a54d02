use mir.ValLaws.{to_z-of_z}
use mir.Syntax.{w8}
use mathlib.Core.Path.{◌∙◌, ap}
use Rattle.wire.specs.Run.{order_number}
use Rattle.birkenschuh.proofs.bytes.bks_compare.Goals as goal

pub returns : goal.returns
returns c = to_z-of_z w8 c.number_of.result (record { sfits = c.number_of.type_inv }) ∙ c.number_of.ensures ∙ ap order_number c.compare.ensures
