use Rattle.epmd_client_names.specs.Survey.{Room, Rows}
use Rattle.epmd_client_names.proofs.survey.fill.Given as goal

abbrev pub invariant-loop-p : goal.invariant-loop-p
invariant-loop-p l = Room l.s l.tallies × Rows l.s l.p l.tallies
