use Prim.Native.Nat.{ℕ, ◌+◌}
use mathlib.Core.Path.{refl, ap, ◌∙◌}
use mathlib.Core.List.{List, [], ◌∷◌, ◌++◌}
use lib.ListN.{length}
use Rattle.wire.specs.Number.{be}
use Rattle.wire.specs.Output.{overwrite, written}
use Rattle.wire.specs.Layout.{int, encode}
use Rattle.wire.proofs.OutputLaws.{written_two}
use Rattle.epmd_rules.specs.Messages.{port_please2_req}
use Rattle.epmd_client_rules.proofs.WritingLaws.{port_please2_split}
use Rattle.epmd_client.proofs.requests.put_port_please2.Goals as goal

pub returns : goal.returns
returns c =
    let a = c.args in
    let o = a.out.now in
    let n = a.name.now in
    let h = be 2 (1 + length n) ++ encode port_please2_req (int 122 ∷ []) in
    let e = c.put_bytes.ensures ∙ ap (overwrite o 0) c.frame_head-head.ensures in
    c.put_bytes-2.ensures ∙ ap (λ (x : List ℕ). overwrite x 3 n) e ∙ written_two o h n 3 refl ∙ ap (λ (x : List ℕ). written x o) (port_please2_split n)
