use Prim.Native.Nat.{◌+◌, ◌≤◌}
use native.Mathlib.Omega.{arith}
use lib.ListN.{length}
use Rattle.wire.specs.Number.{be}
use Rattle.epmd_state.specs.Bytes.{tail_at}
use Rattle.epmd_state.proofs.BytesLaws.{Put, then}
use Rattle.epmd_state.proofs.put.put_numbers.Goals as goal

pub returns-clause-state_after : goal.returns-clause-state_after
returns-clause-state_after c =
    let a = c.args in
    let b = a.state.now in
    let p = a.p.now in
    let at = a.at + tail_at in
    let room : at ≤ length b = omega (arith, c.requires) in
    let p1 : Put b _ at (be 1 p.kind) (a.at + (tail_at + 1)) = record { is = c.put.ensures; there = omega arith } in
    let p2 = then b _ at _ _ (be 1 p.protocol) _ (a.at + (tail_at + 2)) room p1 c.put-2.ensures (omega arith) in
    let p3 = then b _ at _ _ (be 2 p.port) _ (a.at + (tail_at + 4)) room p2 c.put-3.ensures (omega arith) in
    let p4 = then b _ at _ _ (be 2 p.highest) _ (a.at + (tail_at + 6)) room p3 c.put-4.ensures (omega arith) in
    let p5 = then b _ at _ _ (be 2 p.lowest) _ (a.at + (tail_at + 8)) room p4 c.put-5.ensures (omega arith) in
    let p6 = then b _ at _ _ (be 4 p.connection) _ (a.at + (tail_at + 12)) room p5 c.put-6.ensures (omega arith) in
    let p7 = then b _ at _ _ (be 4 p.creation) _ (a.at + (tail_at + 16)) room p6 c.put-7.ensures (omega arith) in
    p7.is
