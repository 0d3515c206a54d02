use mathlib.Core.Path.{refl, sym, ◌∙◌}
use Rattle.wire.proofs.OutputLaws.{written_none}
use Rattle.script_lines.proofs.script.end.Goals as goal

pub returns-then-inside_group : goal.returns-then-inside_group
returns-then-inside_group c = rw (sym c.inside_group.ensures ∙ c.if-inside_group.true) c.fail.ensures

pub returns : goal.returns
returns c = rw (sym c.inside_group.ensures ∙ c.if-inside_group.false) (record { value = refl; out_after = sym (written_none c.args.out.now) })
