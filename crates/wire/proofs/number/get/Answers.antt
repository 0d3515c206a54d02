use mathlib.Core.Path.{ap, ◌∙◌}
use Rattle.wire.specs.Number.{num, be_at}
use Rattle.wire.proofs.RunLaws.{cut}
use Rattle.wire.proofs.number.get.Goals as goal

pub returns : goal.returns
unfolding be_at
returns g c =
    let a = c.args in
    c.read.ensures ∙ ap num (cut a.at _ a.s.now) ∙ ap (λ (w : _). be_at w a.at a.s.now) c.WIDTH.ensures
