use Rattle.std.proofs.Common.{◌≡◌, length}
use Rattle.wire.specs.Decimal.{decimal}
use Rattle.wire.specs.Output.{overwrite}
use Rattle.wire.proofs.DecimalLaws.{last_digits}
use Rattle.wire.proofs.decimal.put_decimal.Given as goal

abbrev pub invariant-loop-k : goal.invariant-loop-k
invariant-loop-k l =
    (length l.out ≡ length l.initial.out) × (overwrite l.out l.at (last_digits l.k l.rest) ≡ overwrite l.initial.out l.at (decimal l.fn.n))
