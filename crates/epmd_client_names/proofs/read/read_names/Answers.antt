use Prim.Native.Nat.{ℕ, ◌-◌}
use mathlib.Core.Path.{◌≡◌, ap, ◌∙◌, subst}
use mathlib.Core.List.{List, ◌++◌}
use native.Mathlib.Omega.{arith}
use lib.ListN.{length, take, drop}
use Rattle.wire.specs.Number.{be}
use Rattle.wire.proofs.RunLaws.{rest}
use Rattle.epmd_client_rules.specs.Readings.{Tells}
use Rattle.epmd_client_names.proofs.ReplyLaws.{whole}
use Rattle.epmd_client_names.proofs.read.read_names.Goals as goal

pub returns : goal.returns
returns c =
    let b : List ℕ = c.args.reply.now in
    let own : ℕ = c.in-Ok.own in
    let e : be 4 own ++ take (length b - 4) (drop 4 b) ≡ b =
    ap (λ (l : List ℕ). be 4 own ++ l) (rest 4 b) ∙ ap (λ (v : ℕ). be 4 v ++ drop 4 b) (c.in-Ok.ensures.1 ∙ c.get.ensures)
    ∙ whole b (omega arith) (λ i. omega (arith, c.type_inv.reply i))
    in
    subst (λ (l : List ℕ). Tells l c.read_text.result) e c.read_text.ensures
