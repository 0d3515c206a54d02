use Prim.Native.Nat.{ℕ, ◌+◌, ◌<◌}
use mathlib.Core.Path.{◌≡◌, ◌∙◌, ap, ap₂}
use mathlib.Core.List.{List, ◌++◌}
use native.Mathlib.Omega.{arith}
use lib.ListN.{length}
use Rattle.wire.specs.Output.{overwrite}
use Rattle.wire.specs.Layout.{Fits}
use Rattle.wire.proofs.OutputLaws.{overwrite_join}
use Rattle.handshake_state.specs.Bytes.{slot_l, slot_values, slot_bytes, record_at, endpoint_of}
use Rattle.handshake_state.proofs.BytesLaws.{put_here, slot_split, slot_long, stage_small}
use borrow.Author.Rules.{rules}
use Rattle.handshake_state.proofs.bytes.put_slot.Goals as goal

pub returns : goal.returns
returns c =
    let a = c.args in
    let s = a.slot in
    let o = record_at a.at in
    let room : length s.name.bytes ≡ 255 = search rules in
    let small : s.name.len < 256 = search rules in
    let fits : Fits slot_l (slot_values s) = (search rules, (search rules, (search rules, (stage_small s.stage, (small, (room, tt)))))) in
    let h : c.numbers.result ++ c.array.result ≡ slot_bytes s = ap₂ (λ (x y : List ℕ). x ++ y) c.numbers.ensures c.array.ensures ∙ slot_split s in
    let long : length c.numbers.result ≡ 18 = search rules in
    let e : c.put_bytes-2.new.out ≡ overwrite a.state.now o (slot_bytes s) =
    c.put_bytes-2.ensures
    ∙ ap (λ (x : List ℕ). overwrite x (o + 18) c.array.result) c.put_bytes.ensures
    ∙ overwrite_join a.state.now o c.numbers.result c.array.result (o + 18) (search rules) (omega (arith, long))
    ∙ ap (overwrite a.state.now o) h in
    ap endpoint_of e ∙ put_here a.state.now a.at s (search rules) (search rules) fits (slot_long s room)
