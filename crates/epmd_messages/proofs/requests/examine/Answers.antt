use mathlib.Core.Path.{sym, ◌∙◌}
use native.Mathlib.Omega.{arith}
use borrow.Author.Tests.{not-false}
use lib.ListN.{length-drop}
use Rattle.wire.specs.Frame.{body}
use Rattle.wire.proofs.FrameLaws.{frame_told}
use Rattle.epmd_messages.proofs.requests.examine.Goals as goal

pub examine_body-requires : goal.examine_body-requires
unfolding body
examine_body-requires c =
    let xs = c.args.frame.now in
    let f = frame_told xs (sym c.is_frame.ensures ∙ not-false _ c.if-not-is_frame.false-raw) in
    rw c.body_of.ensures (omega (arith, f.0, f.1, length-drop 2 xs))
