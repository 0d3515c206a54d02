use Prim.Native.Nat.{ℕ, ◌+◌, ◌-◌, ◌/◌, ◌%◌, ◌<◌}
use mathlib.Core.Path.{sym, ap, ◌∙◌}
use mathlib.Core.List.{List}
use native.Mathlib.Omega.{arith}
use lib.ListN.{length, length-set}
use Rattle.wire.specs.Output.{overwrite}
use Rattle.wire.proofs.OutputLaws.{overwrite_last}
use Rattle.wire.proofs.DecimalLaws.{last_digits, last_digits_length, last_digits_more}
use Rattle.wire.proofs.decimal.put_decimal.Goals as goal

pub loop-k-preserved : goal.loop-k-preserved
loop-k-preserved c =
    let a = c.args in
    let l = c.loop-k in
    let k : ℕ = l.k - 1 in
    let above : List ℕ = last_digits k (l.rest / 10) in
    let room : a.at + k < length l.out = omega (arith, c.requires, l.invariant.0, c.length_of-len.ensures, l.auto.k, c.loop-k-test.true) in (
      length-set l.out (a.at + k) (48 + l.rest % 10) ∙ l.invariant.0,
      overwrite_last l.out a.at above (48 + l.rest % 10) (a.at + k) (ap (λ (m : ℕ). a.at + m) (last_digits_length k (l.rest / 10))) room
          ∙ ap (overwrite l.out a.at) (sym (last_digits_more l.k l.rest (omega (arith, c.loop-k-test.true))))
          ∙ l.invariant.1,
    )
