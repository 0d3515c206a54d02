use Prim.Native.Nat.{◌+◌}
use mathlib.Core.Path.{sym, ◌∙◌, subst}
use native.Mathlib.Omega.{arith}
use Rattle.epmd_client_names.specs.Tallies.{Means}
use Rattle.epmd_client_names.specs.Survey.{Below}
use Rattle.epmd_client_names.proofs.SurveyLaws.{below_one, turn, skipped, skipped_tail, turns_within}
use Rattle.epmd_client_names.specs.declared.tally.Tally.{Tally}
use Rattle.epmd_client_names.proofs.survey.every.Goals.{then-space_at+then-a_behind, else-space_at, else-space_at-via-then-space_at+else-a_behind, else-space_at-via-else-space_at}
use Rattle.epmd_client_names.proofs.survey.every.Goals as goal

pub loop-n-init : goal.loop-n-init
loop-n-init c = below_one c.args.s.now c.args.p

pub loop-n-preserved : goal.loop-n-preserved
loop-n-preserved c =
    let a = c.args in
    let l = c.loop-n in
    let P = λ (t : Tally). Means (Below a.s.now a.p (l.n + 1)) t in
    elim c.if-space_at.branch [
      | then-space_at+then-a_behind w ↦ subst P (sym (w.all-is ∙ w.join-all.ensures)) (turn a.s.now a.p l.n l.all w.through.result l.invariant w.through.ensures)
      | else-space_at w ↦
          subst P (sym w.all-is) (elim w.else-space_at.branch [
            | else-space_at-via-then-space_at+else-a_behind v ↦ skipped_tail a.s.now a.p l.n (omega (arith, c.requires.place.inside)) (sym v.a_behind.ensures ∙ v.if-a_behind.false) l.all l.invariant
            | else-space_at-via-else-space_at v ↦ skipped a.s.now a.p l.n (omega (arith, c.requires.place.inside)) (sym c.space_at.ensures ∙ v.if-space_at.false) l.all l.invariant
          ])
    ]

pub returns : goal.returns
returns c =
    let a = c.args in
    let l = c.loop-n in
    let e = c.lengths_end-n-end.ensures in
    turns_within a.s.now a.p l.n c.requires.place.inside (λ h. omega (arith, e.whole (omega arith))) l.all l.invariant
