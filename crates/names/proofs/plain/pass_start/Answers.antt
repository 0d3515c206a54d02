-- `pass_start` meets its contract: of a run shorter than 32 bytes no block of 32 is asked for.
use mathlib.Core.Path.{◌≡◌, sym, ◌∙◌}
use mathlib.Core.Bool.{true}
use native.Mathlib.Omega.{arith}
use Rattle.std.proofs.Common.{rules}
use Rattle.names.proofs.PlainLaws.{plain_get}
use Rattle.names.proofs.plain.pass_start.Goals as goal

pub returns-then-is_plain : goal.returns-then-is_plain
returns-then-is_plain c =
    let yes : c.is_plain.result ≡ true = search rules in
    record {
      onward = omega arith;
      inside = omega arith;
      passed = λ k l m. plain_get c.args.s.now (sym c.is_plain.ensures ∙ yes) k m;
      stops = λ h. absurd (omega arith);
    }
