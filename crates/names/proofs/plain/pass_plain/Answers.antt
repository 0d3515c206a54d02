-- `pass_plain` meets its contract: where eight bytes are not ASCII, no eight plain ones begin.
use mathlib.Core.Path.{◌≡◌, sym, ap, ◌∙◌}
use mathlib.Core.Bool.{false}
use native.Mathlib.Omega.{arith}
use lib.ListN.{length, take, drop}
use Prim.Native.Nat.{◌-◌}
use Rattle.std.proofs.Common.{rules}
use Rattle.wire.specs.Run.{part}
use Rattle.wire.proofs.RunLaws.{rest}
use Rattle.names.specs.Node.{ascii}
use Rattle.names.proofs.PlainLaws.{plain_none, not_ascii}
use Rattle.names.proofs.plain.pass_plain.Goals as goal

pub returns-in_default : goal.returns-in_default
unfolding part
returns-in_default c =
    let a = c.args in
    let s = a.s.now in
    let first : c.in-Some.first.now ≡ take 8 (take (length s - a.i) (drop a.i s)) = search rules in
    let no : c.is_ascii.result ≡ false = search rules in
    record {
      onward = omega arith;
      inside = omega arith;
      passed = plain_none s a.i;
      stops = λ h. not_ascii (part a.i 8 s) (ap ascii (sym (first ∙ ap (take 8) (rest a.i s))) ∙ sym c.is_ascii.ensures ∙ no);
    }
