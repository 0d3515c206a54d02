use mathlib.Core.Path.{sym, ◌∙◌, ap}
use Prim.Native.Nat.{ℕ, ◌≤◌}
use lib.ListN.{length}
use lib.Dec.{eqb}
use Rattle.wire.proofs.RunLaws.{part_length}
use Rattle.epmd_rules.specs.Registration.{is_free}
use Rattle.epmd_state.proofs.BytesLaws.{name_here}
use borrow.Author.Rules.{rules}
use Rattle.epmd_state.proofs.entry.is_free.Goals as goal

pub returns : goal.returns
unfolding is_free
returns c =
    let b = c.args.place.now in
    let n = c.get.result in
    let k : n ≤ 255 = search rules in
    ap (λ (m : ℕ). eqb m 0) (sym (ap length (name_here b n c.get.ensures k) ∙ part_length 1 n b (search rules)))
