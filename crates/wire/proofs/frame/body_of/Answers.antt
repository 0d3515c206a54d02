use Rattle.wire.specs.Frame.{body}
use Rattle.wire.proofs.RunLaws.{rest}
use Rattle.wire.proofs.frame.body_of.Goals as goal

pub returns : goal.returns
unfolding body
returns c = rest 2 c.args.frame.now
