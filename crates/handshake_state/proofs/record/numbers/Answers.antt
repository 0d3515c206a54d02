use Prim.Native.Nat.{◌<◌}
use mathlib.Core.Path.{◌≡◌, sym, ◌∙◌}
use lib.ListN.{length}
use Rattle.wire.specs.Output.{overwrite}
use Rattle.names.specs.Held.{name_bytes}
use Rattle.names.proofs.HeldLaws.{name_length}
use borrow.Author.Rules.{rules}
use Rattle.handshake_state.proofs.record.numbers.Goals as goal

pub returns : goal.returns
unfolding overwrite name_bytes
returns c =
    let name = c.args.slot.name in
    let room : length name.bytes ≡ 255 = search rules in
    let small : name.len < 256 = search rules in
    let n : c.size.result ≡ name.len = c.size.ensures.value ∙ sym (name_length name room small) in
    rw (c.put-5.ensures, c.put-4.ensures, c.put-3.ensures, c.put-2.ensures, c.put.ensures, c.number.ensures, n)
