use Prim.Native.Nat.{ℕ, ◌+◌}
use mathlib.Core.Path.{refl, ap, ◌∙◌}
use mathlib.Core.List.{List}
use native.Mathlib.Omega.{arith}
use lib.ListN.{length}
use Rattle.wire.specs.Number.{be}
use Rattle.wire.specs.Output.{overwrite}
use Rattle.wire.proofs.OutputLaws.{overwrite_join}
use Rattle.epmd_messages.proofs.runs.put_run.Goals as goal

pub returns-clause-out_after : goal.returns-clause-out_after
returns-clause-out_after c =
    let a = c.args in
    let b = a.bytes.now in
    c.put_bytes.ensures ∙ ap (λ (l : List ℕ). overwrite l (a.at + 2) b) c.put.ensures ∙ overwrite_join a.out.now a.at (be 2 (length b)) b (a.at + 2) (omega (arith, c.requires)) refl
