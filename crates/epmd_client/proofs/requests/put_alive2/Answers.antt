use Prim.Native.Nat.{ℕ, ◌+◌}
use mathlib.Core.Path.{refl, ap, ap₂, ◌∙◌}
use mathlib.Core.List.{List, ◌++◌}
use native.Mathlib.Omega.{arith}
use lib.ListN.{length}
use Rattle.wire.specs.Output.{overwrite, written}
use Rattle.wire.specs.Layout.{counted, run, encode_field}
use Rattle.wire.proofs.OutputLaws.{overwrite_front, overwrite_next}
use Rattle.epmd_client_rules.proofs.WritingLaws.{alive2_head, alive2_split}
use Rattle.epmd_client.proofs.requests.put_alive2.Goals as goal

pub returns : goal.returns
returns c =
    let a = c.args in
    let o = a.out.now in
    let n = encode_field (counted 2) (run a.name.now) in
    let x = encode_field (counted 2) (run a.extra.now) in
    let h = alive2_head a.node.port a.node.kind a.node.protocol a.node.highest a.node.lowest a.name.now a.extra.now in
    let e1 = c.put_bytes.ensures ∙ ap (overwrite o 0) c.alive2_head-head.ensures ∙ overwrite_front o h in
    let e2 = c.put_run-at.ensures.out_after ∙ ap (λ (l : List ℕ). overwrite l 11 n) e1 ∙ overwrite_next o 11 h n refl in
    let e3 = c.put_run.ensures.out_after ∙ ap₂ (λ (l : List ℕ) (k : ℕ). overwrite l k x) e2 c.put_run-at.ensures.value
    ∙ overwrite_next o (13 + length a.name.now) (h ++ n) x (omega arith) in
    e3 ∙ ap (λ (l : List ℕ). written l o) (alive2_split a.node.port a.node.kind a.node.protocol a.node.highest a.node.lowest a.name.now a.extra.now)
