use Prim.Native.Nat.{ℕ}
use native.Mathlib.Omega.{arith}
use lib.ListN.{length}
use Rattle.epmd_client_names.specs.declared.tally.Tally.TheVariants.{One}
use Rattle.epmd_client_names.proofs.SurveyLaws.{room_set, rows_set, at_end}
use Rattle.epmd_client_names.proofs.survey.fill.Goals as goal

pub loop-p-init : goal.loop-p-init
loop-p-init c =
    let a = c.args in
    let pre = c.requires in
    let n : ℕ = length a.s.now in (
      room_set a.s.now n a.tallies.now (One 0) pre,
      rows_set a.s.now n a.tallies.now (One 0) pre.long (λ j x y. absurd (omega arith)) (at_end a.s.now),
    )
