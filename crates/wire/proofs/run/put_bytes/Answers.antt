-- `wire::put_bytes` meets its contract: the first i bytes are pasted. Assumes nothing.
use mathlib.Core.Path.{◌≡◌, ap, ◌∙◌}
use borrow.Author.Rules.{rules}
use native.Mathlib.Omega.{arith}
use lib.ListN.{length, length-set}
use lib.Seq.{paste, paste-zero}
use Rattle.wire.proofs.OutputLaws.{paste_overwrite, paste_next}
use Rattle.wire.proofs.run.put_bytes.Goals as goal

pub loop-i-init : goal.loop-i-init
loop-i-init c = (paste-zero c.args.out.now c.args.at c.args.src.now, search rules)

pub loop-i-preserved : goal.loop-i-preserved
loop-i-preserved c =
    let a = c.args in
    let l = c.loop-i in (
      paste_next a.out.now a.at a.src.now l.i l.out l.invariant.0 (omega arith) (omega arith),
      simp length-set l.invariant.1,
    )

pub returns : goal.returns
returns c =
    let a = c.args in
    let l = c.loop-i in
    let e : l.i ≡ length a.src.now = omega arith in
    l.invariant.0 ∙ ap (paste a.out.now a.at a.src.now) e ∙ paste_overwrite a.out.now a.at a.src.now
