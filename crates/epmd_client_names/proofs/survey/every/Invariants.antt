use Rattle.epmd_client_names.specs.Tallies.{Means}
use Rattle.epmd_client_names.specs.Survey.{Below}
use Rattle.epmd_client_names.proofs.survey.every.Given as goal

abbrev pub invariant-loop-n : goal.invariant-loop-n
invariant-loop-n l = Means (Below l.s l.p l.n) l.all
