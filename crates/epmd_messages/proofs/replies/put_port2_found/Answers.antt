use Prim.Native.Nat.{ℕ, ◌+◌}
use mathlib.Core.Path.{refl, sym, ap, ◌∙◌}
use mathlib.Core.List.{List, ◌++◌, append_assoc}
use native.Mathlib.Omega.{arith}
use lib.ListN.{length}
use Rattle.wire.specs.Number.{be}
use Rattle.wire.specs.Output.{overwrite, written}
use Rattle.wire.specs.Layout.{counted, run, encode_field}
use Rattle.wire.proofs.OutputLaws.{overwrite_front, overwrite_next}
use Rattle.epmd_rules.proofs.ReplyLaws.{head_with, port2_split}
use Rattle.epmd_messages.proofs.replies.put_port2_found.Goals as goal

pub returns-clause-out_after : goal.returns-clause-out_after
returns-clause-out_after c =
    let a = c.args in
    let o = a.out.now in
    let n = a.name.now in
    let x = a.extra.now in
    let h = head_with a.node.port a.node.kind a.node.protocol a.node.highest a.node.lowest n x in
    let f = encode_field (counted 2) (run x) in
    let split = sym (append_assoc (h ++ n) (be 2 (length x)) x) ∙ port2_split a.node.port a.node.kind a.node.protocol a.node.highest a.node.lowest n x in
    let e1 = c.put_bytes.ensures ∙ ap (overwrite o 0) c.port2_head-head.ensures ∙ overwrite_front o h in
    let e2 = c.put_bytes-2.ensures ∙ ap (λ (l : List ℕ). overwrite l 12 n) e1 ∙ overwrite_next o 12 h n refl in
    let e3 = c.put_run.ensures.out_after ∙ ap (λ (l : List ℕ). overwrite l (12 + length n) f) e2 ∙ overwrite_next o (12 + length n) (h ++ n) f (omega arith) in
    e3 ∙ ap (λ (l : List ℕ). written l o) split
