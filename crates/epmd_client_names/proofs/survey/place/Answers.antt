use mathlib.Core.Path.{sym, ◌∙◌}
use mathlib.Core.List.{[], ◌∷◌}
use Rattle.epmd_client_names.proofs.TextLaws.{has_other}
use Rattle.epmd_client_names.proofs.SurveyLaws.{no_word}
use Rattle.epmd_client_names.proofs.survey.place.Goals.{else-s-p-eq110-via-then-s-p-eq110+else-has, else-s-p-eq110-via-else-s-p-eq110}
use Rattle.epmd_client_names.proofs.survey.place.Goals as goal

pub returns-else-s-p-eq110 : goal.returns-else-s-p-eq110
returns-else-s-p-eq110 c =
    let a = c.args in
    elim c.else-s-p-eq110.branch [
      | else-s-p-eq110-via-then-s-p-eq110+else-has w ↦ no_word a.s.now a.p c.requires.inside (sym w.has.ensures ∙ w.if-has.false)
      | else-s-p-eq110-via-else-s-p-eq110 w ↦
          no_word a.s.now a.p c.requires.inside (has_other a.s.now a.p 110 (97 ∷ 109 ∷ 101 ∷ 32 ∷ []) w.if-s-p-eq110.false)
    ]
