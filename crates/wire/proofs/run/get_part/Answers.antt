use Rattle.wire.proofs.RunLaws.{cut}
use Rattle.wire.proofs.run.get_part.Goals as goal

pub returns : goal.returns
returns c = cut c.args.at c.args.n c.args.s.now
