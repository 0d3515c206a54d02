use mathlib.Core.Path.{ap, ◌∙◌}
use Rattle.wire.specs.Output.{overwrite}
use Rattle.wire.proofs.OutputLaws.{overwrite_front}
use Rattle.epmd_client_rules.specs.Requests.{names_frame}
use Rattle.epmd_client_rules.proofs.WritingLaws.{names_head}
use Rattle.epmd_client.proofs.requests.put_names.Goals as goal

pub returns : goal.returns
returns c =
    let o = c.args.out.now in
    c.put_bytes.ensures ∙ ap (overwrite o 0) (c.frame_head-head.ensures ∙ names_head) ∙ overwrite_front o names_frame
