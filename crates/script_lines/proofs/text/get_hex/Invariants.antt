use Prim.Native.Nat.{◌*◌}
use mathlib.Core.Path.{◌≡◌}
use mathlib.Core.List.{◌++◌}
use lib.ListN.{length, take, drop}
use Rattle.script_lines.specs.Text.{unhex}
use Rattle.script_lines.proofs.text.get_hex.Given as goal

abbrev pub invariant-loop-k : goal.invariant-loop-k
invariant-loop-k l = (length l.out ≡ length l.initial.out) × (unhex l.text ≡ take l.k l.out ++ unhex (drop (2 * l.k) l.text)) × (drop l.k l.out ≡ drop l.k l.initial.out)
