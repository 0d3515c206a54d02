use mathlib.Core.Path.{◌∙◌, ap}
use Rattle.epmd_rules.specs.State.{Registry}
use Rattle.epmd_rules.specs.declared.refusal.Refusal.{Refusal}
use Rattle.std.proofs.Common.{Result}
use Rattle.epmd_rules.specs.Registry.{new_of}
use Rattle.epmd_state.specs.Bytes.{if_made}
use Rattle.script_lines.specs.declared.script.Awaits.TheVariants.{Operation}
use Rattle.script_lines.specs.Script.{started}
use Rattle.script_lines.proofs.ScriptLaws.{mapper_made}
use Rattle.script_lines.proofs.script.Run.start.Goals as goal

pub returns : goal.returns
unfolding started
returns c =
    let m = c.make.ensures in
    let e = m.registry ∙ ap (λ (t : Result Unit Refusal). if_made t (new_of 4369 1).registry _) m.answer ∙ mapper_made _ in
    ap (λ (r : Registry). record { registry = r; awaits = Operation }) e
