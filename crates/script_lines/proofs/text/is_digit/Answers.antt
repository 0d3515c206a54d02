use Prim.Native.Nat.{ℕ}
use mathlib.Core.Path.{sym, ap}
use native.Mathlib.Omega.{arith}
use lib.Dec.{ltb}
use Rattle.script_lines.proofs.TextLaws.{value_numeral, value_letter, digit_no}
use Rattle.script_lines.proofs.text.is_digit.Goals as goal

pub returns-in-48-to-57 : goal.returns-in-48-to-57
returns-in-48-to-57 c = ap (λ (d : ℕ). ltb d c.args.radix) (sym (value_numeral c.args.c (omega arith) (omega arith)))

pub returns-in-97-to-102 : goal.returns-in-97-to-102
returns-in-97-to-102 c = ap (λ (d : ℕ). ltb d c.args.radix) (sym (value_letter c.args.c (omega arith) (omega arith)))

pub returns-in_default : goal.returns-in_default
returns-in_default c = digit_no _ _ c.requires (λ h k. omega arith) (λ h k. omega arith)

pub returns-in_default-2 : goal.returns-in_default-2
returns-in_default-2 c = digit_no _ _ c.requires (λ h k. omega arith) (λ h k. omega arith)

pub returns-in_default-3 : goal.returns-in_default-3
returns-in_default-3 c = digit_no _ _ c.requires (λ h k. omega arith) (λ h k. omega arith)
