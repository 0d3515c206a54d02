-- `is_ascii` meets its contract: of eight bytes as one number, the highest bits.
use Rattle.std.proofs.Common.{◌≡◌, rules}
use Prim.Native.Nat.{ℕ}
use mathlib.Core.Path.{sym, ap, ◌∙◌}
use lib.ListN.{length}
use lib.Bits.{bit_and}
use lib.Dec.{eqb}
use Rattle.names.specs.Node.{low_first}
use Rattle.names.proofs.PlainLaws.{high_bits, ascii_bits, eight}
use Rattle.names.proofs.plain.is_ascii.Goals as goal

pub returns : goal.returns
returns c =
    let p = c.args.bytes in
    let h : length p ≡ 8 = search rules in
    ap (λ (x : ℕ). eqb (bit_and x (high_bits 8)) 0) (c.from_le_bytes.ensures ∙ eight p h)
    ∙ ap (λ (n : ℕ). eqb (bit_and (low_first p) (high_bits n)) 0) (sym h)
    ∙ ascii_bits p (λ i. search rules)
