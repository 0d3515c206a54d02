use mathlib.Core.Path.{◌≡◌}
use lib.ListN.{length, take}
use Rattle.wire.specs.Output.{overwrite}
use Rattle.script_lines.specs.Text.{hex_of}
use Rattle.script_lines.proofs.text.put_hex.Given as goal

abbrev pub invariant-loop-i : goal.invariant-loop-i
invariant-loop-i l = (length l.out ≡ length l.initial.out) × (l.out ≡ overwrite l.initial.out l.at (hex_of (take l.i l.src)))
