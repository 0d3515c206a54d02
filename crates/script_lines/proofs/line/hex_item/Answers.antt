use mathlib.Core.Path.{◌≡◌, sym, ◌∙◌}
use mathlib.Core.Bool.{true, false}
use Rattle.script_lines.specs.Text.{is_hex}
use Rattle.script_lines.specs.Line.{hex_item}
use Rattle.script_lines.proofs.line.hex_item.Goals as goal

pub returns-then-is_hex : goal.returns-then-is_hex
unfolding hex_item
returns-then-is_hex c =
    let e : is_hex c.args.text.now ≡ true = sym c.is_hex.ensures ∙ c.if-is_hex.true in
    rw e

pub returns-else-is_hex : goal.returns-else-is_hex
unfolding hex_item
returns-else-is_hex c =
    let e : is_hex c.args.text.now ≡ false = sym c.is_hex.ensures ∙ c.if-is_hex.false in
    rw e
