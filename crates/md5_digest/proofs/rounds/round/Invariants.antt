use Rattle.std.proofs.Common.{◌≡◌, drop}
use Rattle.md5_digest.specs.Md5.{run}
use Rattle.md5_digest.specs.Step.{Computes, listed}
use Rattle.md5_digest.proofs.rounds.round.Given as goal

abbrev pub invariant-loop-operation : goal.invariant-loop-operation
invariant-loop-operation g l =
    (m : _) → Computes (goal.A-post g l.auxiliary) m → run l.x (listed m (drop l.operation-index l.table)) l.w ≡ run l.x (listed m l.fn.table) l.fn.w
