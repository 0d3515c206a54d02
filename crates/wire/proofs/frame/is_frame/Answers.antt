use Prim.Native.Nat.{ℕ, ◌+◌}
use mathlib.Core.Path.{sym, ap, ◌∙◌}
use lib.Dec.{eqb}
use lib.ListN.{length}
use borrow.Author.Tests.{lt-leb}
use Rattle.wire.proofs.FrameLaws.{frame_short, frame_long}
use Rattle.wire.proofs.frame.is_frame.Goals as goal

pub returns-then-frame-ge3 : goal.returns-then-frame-ge3
returns-then-frame-ge3 c =
    let xs = c.args.frame.now in
    ap (λ (l : ℕ). eqb (length xs) (2 + l)) c.get.ensures ∙ sym (frame_long xs c.if-frame-ge3.true)

pub returns-else-frame-ge3 : goal.returns-else-frame-ge3
returns-else-frame-ge3 c =
    let xs = c.args.frame.now in
    let short = c.if-frame-ge3.false in
    lt-leb 3 (length xs) short ∙ sym (frame_short xs short)
