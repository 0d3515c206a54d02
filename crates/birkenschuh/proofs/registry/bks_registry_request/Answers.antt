use mathlib.Core.Path.{◌∙◌, ap}
use Rattle.epmd_rules.specs.Answers.{numbers_of}
use Rattle.birkenschuh.proofs.registry.bks_registry_request.Goals as goal

pub returns : goal.returns
returns c = record { told = c.from.ensures ∙ ap numbers_of c.request.ensures.answer; registry = c.request.ensures.registry; output = c.request.ensures.output }
