use mathlib.Core.Path.{sym, ap, ◌∙◌}
use Rattle.script_lines.specs.Line.{conn_key, hex_key, conn_item, hex_item}
use Rattle.script_lines.proofs.LineLaws.{starts_std, op_std, item_long, item_op, item_conn, item_hex, item_other}
use Rattle.script_lines.proofs.line.item_of.Goals as goal

pub returns-then-line-gt800 : goal.returns-then-line-gt800
returns-then-line-gt800 c = sym (item_long c.args.line.now c.if-line-gt800.true)

pub returns-then-eq : goal.returns-then-eq
returns-then-eq c =
    let l = c.args.line.now in
    let o = op_std l _ _ c.eq.ensures c.as_slice.ensures in
    sym (item_op l c.if-line-gt800.false (o ∙ c.if-eq.true))

pub returns-in-Some : goal.returns-in-Some
returns-in-Some c =
    let l = c.args.line.now in
    let o = op_std l _ _ c.eq.ensures c.as_slice.ensures in
    let k = c.in-Some.ensures.cases in
    c.conn_item.ensures ∙ ap conn_item k.1 ∙ sym (item_conn l c.if-line-gt800.false (o ∙ c.if-eq.false) (sym (starts_std conn_key l) ∙ k.0))

pub returns-in_err-strip_prefix : goal.returns-in_err-strip_prefix
returns-in_err-strip_prefix c =
    let l = c.args.line.now in
    let o = op_std l _ _ c.eq.ensures c.as_slice.ensures in
    c.from_residual.ensures
    ∙ sym (item_other l c.if-line-gt800.false (o ∙ c.if-eq.false) (sym (starts_std conn_key l) ∙ c.in_default.ensures.cases) (sym (starts_std hex_key l) ∙ c.in_err-strip_prefix.ensures.cases))

pub returns : goal.returns
returns c =
    let l = c.args.line.now in
    let o = op_std l _ _ c.eq.ensures c.as_slice.ensures in
    let k = c.in_ok-strip_prefix.ensures.cases in
    c.hex_item.ensures ∙ ap hex_item k.1
    ∙ sym (item_hex l c.if-line-gt800.false (o ∙ c.if-eq.false) (sym (starts_std conn_key l) ∙ c.in_default.ensures.cases) (sym (starts_std hex_key l) ∙ k.0))
