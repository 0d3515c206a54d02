use mathlib.Core.Path.{sym, ap, ◌∙◌}
use borrow.Author.Rules.{rules}
use Rattle.std.specs.Option.{option_map}
use Rattle.script_lines.specs.declared.line.Item.TheVariants.{Conn}
use Rattle.script_lines.proofs.LineLaws.{conn_empty, conn_other, conn_leads, conn_digits}
use Rattle.script_lines.proofs.line.conn_item.Goals as goal

pub returns-then-is_empty : goal.returns-then-is_empty
returns-then-is_empty c = sym (conn_empty c.args.text.now (search rules))

pub returns-then-not-all_digits : goal.returns-then-not-all_digits
returns-then-not-all_digits c = sym (conn_other c.args.text.now (search rules) (sym c.all_digits.ensures ∙ c.if-not-all_digits.true))

pub returns-then-leads_zero : goal.returns-then-leads_zero
returns-then-leads_zero c =
    let d = sym c.all_digits.ensures ∙ c.if-not-all_digits.false in
    sym (conn_leads c.args.text.now (search rules) d (sym c.leads_zero.ensures ∙ c.if-leads_zero.true))

pub returns-in_err-small_number : goal.returns-in_err-small_number
returns-in_err-small_number c =
    let d = sym c.all_digits.ensures ∙ c.if-not-all_digits.false in
    let e = conn_digits c.args.text.now (search rules) d (sym c.leads_zero.ensures ∙ c.if-leads_zero.false) c.small_number.result c.small_number.ensures in
    c.from_residual.ensures ∙ sym (e ∙ ap (option_map Conn) c.in_err-small_number.was)

pub returns : goal.returns
returns c =
    let d = sym c.all_digits.ensures ∙ c.if-not-all_digits.false in
    let e = conn_digits c.args.text.now (search rules) d (sym c.leads_zero.ensures ∙ c.if-leads_zero.false) c.small_number.result c.small_number.ensures in
    sym (e ∙ ap (option_map Conn) c.in_ok-small_number.was)
