use Prim.Native.Nat.{ℕ}
use mathlib.Core.Path.{sym, ap, ◌∙◌}
use lib.Dec.{eqb}
use Rattle.std.specs.Prelude.{Option, Some}
use Rattle.std.specs.Option.{option_eq}
use native.Mathlib.Omega.{arith}
use Rattle.epmd_client_names.proofs.WalkLaws.{lead_start, lead_turn, lead_skip, lead_skip_tail, lead_within}
use Rattle.epmd_client_names.proofs.walk.first_len.Goals.{else-space_at-via-then-space_at+else-a_behind, else-space_at-via-then-space_at+then-a_behind+else-eq, else-space_at-via-else-space_at}
use Rattle.epmd_client_names.proofs.walk.first_len.Goals as goal

pub loop-n-init : goal.loop-n-init
loop-n-init c = let a = c.args in λ x l b. lead_start a.s.now a.p a.k x l b

pub loop-n-preserved : goal.loop-n-preserved
loop-n-preserved c =
    let a = c.args in
    let l = c.loop-n in
    elim c.else-space_at.branch [
      | else-space_at-via-then-space_at+else-a_behind w ↦
          λ x e. lead_skip_tail a.s.now a.p a.k l.n (omega (arith, c.requires.begun.place.inside)) (sym w.a_behind.ensures ∙ w.if-a_behind.false) x e (l.invariant x e)
      | else-space_at-via-then-space_at+then-a_behind+else-eq w ↦
          λ x e b. lead_turn a.s.now a.p a.k l.n c.requires.high w.through.result w.through.ensures x e
          (ap (λ (o : Option ℕ). option_eq eqb o (Some a.k)) (sym w.fewest.ensures) ∙ sym w.eq.ensures ∙ w.if-eq.false) (l.invariant x e) b
      | else-space_at-via-else-space_at w ↦ λ x e. lead_skip a.s.now a.p a.k l.n (omega (arith, c.requires.begun.place.inside)) (sym c.space_at.ensures ∙ w.if-space_at.false) x e (l.invariant x e)
    ]

pub returns : goal.returns
returns c =
    let a = c.args in
    let l = c.loop-n in
    let q = c.lengths_end-n-end.ensures in
    λ x e. lead_within a.s.now a.p a.k l.n x c.requires.begun.place.inside (λ h. omega (arith, q.whole (omega arith))) e (l.invariant x e)
