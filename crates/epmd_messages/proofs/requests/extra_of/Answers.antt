use mathlib.Core.Path.{◌∙◌}
use lib.ListN.{length}
use Rattle.wire.proofs.OutputLaws.{over_zeros}
use Rattle.epmd_rules.specs.Registration.{extra_of}
use Rattle.epmd_messages.proofs.requests.extra_of.Goals as goal

pub returns : goal.returns
unfolding extra_of
returns c =
    let s = c.args.s.now in
    let e = c.put_bytes.ensures ∙ over_zeros 128 s c.requires in
    λ i. record { bytes = e i; len = length s }
