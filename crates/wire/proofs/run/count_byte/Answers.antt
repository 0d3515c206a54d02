-- `wire::count_byte` meets its contract: the bytes counted so far, and those in the rest. Assumes nothing.
use Rattle.wire.proofs.RunLaws.{count_hit, count_miss, count_end}
use lib.ListN.{length}
use Prim.Native.Nat.{◌<◌}
use native.Mathlib.Omega.{arith}
use Rattle.wire.proofs.run.count_byte.Goals as goal
use Rattle.wire.proofs.run.count_byte.Goals.{then-x-b, else-x-b}

pub loop-x-preserved : goal.loop-x-preserved
loop-x-preserved c =
    let a = c.args in
    let i = c.loop-x.x-index in
    let h : i < length a.s.now = omega arith in
    elim c.if-x-b.branch [
      | then-x-b w ↦ let e = count_hit a.b a.s.now i h w.if-x-b.true in omega arith
      | else-x-b w ↦ let e = count_miss a.b a.s.now i h w.if-x-b.false in omega arith
    ]

pub returns : goal.returns
returns c =
    let a = c.args in
    omega (arith, count_end a.b a.s.now c.loop-x.x-index (omega arith))
