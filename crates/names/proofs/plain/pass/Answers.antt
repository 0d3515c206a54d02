-- `pass` meets its contract: every byte so far is plain, and blocks go on from there.
use Prim.Native.Nat.{ℕ, ◌+◌, ◌-◌, ◌≤◌}
use mathlib.Core.Path.{◌≡◌, sym, ap, ◌∙◌}
use mathlib.Core.Bool.{true, false}
use mathlib.Core.List.{List}
use native.Mathlib.Omega.{arith}
use lib.ListN.{length, take, drop}
use Rattle.std.proofs.Common.{rules}
use Rattle.wire.specs.Run.{part}
use Rattle.wire.proofs.RunLaws.{cut}
use Rattle.names.specs.Node.{plain}
use Rattle.names.proofs.PlainLaws.{plain_part, plain_join}
use Rattle.names.proofs.plain.pass.Goals as goal

pub returns-then-not-is_plain : goal.returns-then-not-is_plain
returns-then-not-is_plain c =
    let s = c.args.s.now in
    let l = c.loop-j in
    let no : c.is_plain.result ≡ false = search rules in
    record {
      onward = l.invariant.0;
      inside = l.invariant.1;
      passed = l.invariant.2;
      stops = λ h. ap plain (sym (cut l.j c.args.w s)) ∙ sym c.is_plain.ensures ∙ no;
    }

pub loop-j-preserved : goal.loop-j-preserved
loop-j-preserved c =
    let s = c.args.s.now in
    let l = c.loop-j in
    let yes : c.is_plain.result ≡ true = search rules in
    let e = ap plain (sym (cut l.j c.args.w s)) ∙ sym c.is_plain.ensures ∙ yes in (
      omega arith,
      omega arith,
      plain_join s c.args.i l.j l.j (l.j + c.args.w) (omega arith) l.invariant.2 (plain_part l.j c.args.w (l.j + c.args.w) s (omega arith) (omega arith) e),
    )

-- the last w bytes
last : (w : ℕ) (s : List ℕ) → w ≤ length s → take (length s - (length s - w)) (drop (length s - w) s) ≡ part (length s - w) w s
unfolding part
last w s h = ap (λ (k : ℕ). take k (drop (length s - w) s)) (omega arith)

pub returns-then-is_plain : goal.returns-then-is_plain
returns-then-is_plain c =
    let s = c.args.s.now in
    let w = c.args.w in
    let l = c.loop-j in
    let n = length s in
    let yes : c.is_plain-then-j-n.result ≡ true = search rules in
    let e = ap plain (sym (last w s (omega arith))) ∙ sym c.is_plain-then-j-n.ensures ∙ yes in
    record {
      onward = omega arith;
      inside = omega arith;
      passed = plain_join s c.args.i l.j (n - w) n (omega arith) l.invariant.2 (plain_part (n - w) w n s (omega arith) (omega arith) e);
      stops = λ h. absurd (omega arith);
    }
