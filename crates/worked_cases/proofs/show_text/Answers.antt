use borrow.Author.Rules.{rules}
use Rattle.wire.specs.Decimal.{digits, decimal}
use Rattle.worked_cases.proofs.show_text.Goals as goal

pub put_decimal-n-requires : goal.put_decimal-n-requires
unfolding digits decimal
put_decimal-n-requires g c = search rules
