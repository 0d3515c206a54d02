-- `round` meets its contract. The loop's invariant: what is left of the table makes of the buffer now what all of it makes of the buffer at the start.
-- Assumes nothing.
use Rattle.std.proofs.Common.{rules, sym, ◌∙◌}
use Rattle.md5_digest.proofs.Words.{operation_at, run_next, run_end}
use Rattle.md5_digest.proofs.rounds.round.Goals as goal

pub step-w-requires-clause-sound : goal.step-w-requires-clause-sound
step-w-requires-clause-sound g c = operation_at c.args.table.now _ c.requires.sound c.loop-operation.operation-index (search rules)

pub loop-operation-preserved : goal.loop-operation-preserved
loop-operation-preserved g c = λ m law.
    let h = c.loop-operation in
    run_next m c.args.table.now _ h.operation-index c.args.x.now h.w (search rules) (c.step-w.ensures m law) ∙ h.invariant m law

pub returns : goal.returns
returns g c = λ m law.
    let h = c.loop-operation in
    sym (run_end m c.args.table.now h.operation-index c.args.x.now h.w (search rules)) ∙ h.invariant m law
