use Rattle.std.proofs.Common.{◌≡◌}
use Rattle.md5_digest.specs.Md5.{pad, process}
use Rattle.md5_digest.proofs.digest.Given as goal

abbrev pub invariant-loop-x : goal.invariant-loop-x
invariant-loop-x l = l.s ≡ process (pad l.text) l.x-index

abbrev pub invariant-loop-i : goal.invariant-loop-i
invariant-loop-i l = l.s ≡ process (pad l.text) l.i
