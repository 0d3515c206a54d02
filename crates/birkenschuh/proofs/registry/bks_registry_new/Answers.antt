use mathlib.Core.Path.{◌∙◌, ap}
use Rattle.std.specs.Prelude.{Result}
use Rattle.epmd_rules.specs.declared.refusal.Refusal.{Refusal}
use Rattle.epmd_rules.specs.Answers.{making_number}
use Rattle.epmd_rules.specs.Registry.{new_of}
use Rattle.epmd_state.specs.Bytes.{registry_of, if_made}
use Rattle.birkenschuh.proofs.registry.bks_registry_new.Goals as goal

pub returns : goal.returns
returns c =
    let a = c.args in
    record {
      told = c.making_number.ensures ∙ ap making_number c.make.ensures.answer;
      registry = c.make.ensures.registry ∙ ap (λ (m : Result Unit Refusal). if_made m (new_of a.port a.first).registry (registry_of a.r.now)) c.make.ensures.answer;
    }
