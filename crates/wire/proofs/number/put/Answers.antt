use mathlib.Core.Path.{sym, ◌∙◌}
use Rattle.wire.proofs.NumberLaws.{be_length}
use Rattle.wire.proofs.OutputLaws.{overwrite_part}
use Rattle.wire.proofs.number.put.Goals as goal

pub returns : goal.returns
returns g c =
    let a = c.args in
    overwrite_part a.out.now a.at _ _ _ c.write.ensures (be_length _ _ ∙ sym c.WIDTH.ensures)
