use mathlib.Core.Path.{◌≡◌, ◌∙◌, ap}
use Prim.Native.Nat.{ℕ}
use mathlib.Core.List.{List, ◌++◌}
use native.Mathlib.Omega.{arith}
use Rattle.wire.specs.Number.{be}
use Rattle.wire.specs.Output.{overwrite}
use Rattle.wire.proofs.OutputLaws.{overwrite_join}
use Rattle.epmd_state.specs.Bytes.{registry_of}
use Rattle.epmd_state.proofs.BytesLaws.{head_here}
use borrow.Author.Rules.{rules}
use Rattle.epmd_state.proofs.head.put_head.Goals as goal

pub returns : goal.returns
returns c =
    let a = c.args in
    let st = a.state.now in
    let e : c.put-2.new.out ≡ overwrite st 0 (be 2 a.port ++ be 4 a.next) =
    c.put-2.ensures ∙ ap (λ (x : List ℕ). overwrite x 2 (be 4 a.next)) c.put.ensures
    ∙ overwrite_join st 0 (be 2 a.port) (be 4 a.next) 2 (omega arith) (omega arith) in
    ap registry_of e ∙ head_here st a.port a.next (search rules) (search rules) (search rules)
