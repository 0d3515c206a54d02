use Prim.Native.Nat.{ℕ, ◌-◌}
use mathlib.Core.Path.{◌≡◌, ap, ◌∙◌}
use mathlib.Core.List.{List, ◌++◌, append-nil}
use native.Mathlib.Omega.{arith}
use lib.ListN.{length, replicate}
use Rattle.wire.proofs.OutputLaws.{over_zeros}
use Rattle.epmd_rules.specs.Registration.{held_extra}
use Rattle.epmd_state.proofs.entry.held.Goals as goal

pub returns : goal.returns
returns c =
    let s = c.args.s.now in
    let none : 128 - length s ≡ 0 = omega (arith, c.requires) in
    let p : c.put_bytes.new.out ≡ s =
    c.put_bytes.ensures ∙ over_zeros 128 s (omega (arith, c.requires)) ∙ ap (λ (k : ℕ). s ++ replicate k 0) none ∙ append-nil s in
    ap (λ (x : List ℕ). held_extra x c.args.len) p
