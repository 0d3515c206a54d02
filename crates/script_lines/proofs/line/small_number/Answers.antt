use Prim.Native.Nat.{ℕ, ◌-◌, ◌+◌, ◌*◌}
use mathlib.Core.Path.{◌∙◌}
use native.Mathlib.Omega.{arith}
use lib.ListN.{drop, get_or}
use Rattle.wire.specs.Decimal.{value}
use Rattle.script_lines.proofs.TextLaws.{digits_at, numeral, valued_above, valued_step}
use Rattle.script_lines.proofs.LineLaws.{small_over}
use Rattle.script_lines.proofs.line.small_number.Goals as goal

pub returns-in_err-checked_mul : goal.returns-in_err-checked_mul
returns-in_err-checked_mul c =
    let l = c.loop-c in
    let t = c.args.text.now in
    let v : ℕ = l.v * 10 + (get_or t l.c-index 0 - 48) in
    c.from_residual.ensures ∙ small_over (value t) (omega (arith, l.invariant.1 ∙ valued_step l.v t l.c-index (omega arith), valued_above v (drop (l.c-index + 1) t), c.in_err-checked_mul.ensures))

pub overflow_sub-c : goal.overflow_sub-c
overflow_sub-c c =
    let l = c.loop-c in
    let t = c.args.text.now in
    (numeral (get_or t l.c-index 0) (digits_at 10 t l.c-index c.requires (omega arith))).0

pub returns-in_err-v : goal.returns-in_err-v
returns-in_err-v c =
    let l = c.loop-c in
    let t = c.args.text.now in
    let v : ℕ = l.v * 10 + (get_or t l.c-index 0 - 48) in
    c.from_residual-in_err-v.ensures ∙ small_over (value t) (omega (arith, l.invariant.1 ∙ valued_step l.v t l.c-index (omega arith), valued_above v (drop (l.c-index + 1) t), c.in_err-v.ensures, c.in_ok-checked_mul.ensures))
