use mathlib.Core.Path.{◌≡◌, sym, ◌∙◌, ap, ap₂}
use Prim.Native.Nat.{ℕ, ◌+◌, ◌*◌, ◌<◌}
use mathlib.Core.List.{List, ◌++◌}
use native.Mathlib.Omega.{arith}
use lib.ListN.{length}
use Rattle.wire.specs.Number.{be}
use Rattle.wire.specs.Output.{overwrite}
use Rattle.wire.specs.Layout.{encode, Fits}
use Rattle.names.specs.Held.{name_bytes}
use Rattle.names.proofs.HeldLaws.{name_length}
use Rattle.epmd_state.specs.Bytes.{head_size, entry_size, tail_at, tail_l, entry_l, tail_values, entry_values, registry_of}
use Rattle.epmd_state.proofs.BytesLaws.{Put, then, put_here, entry_split}
use borrow.Author.Rules.{rules}
use Rattle.epmd_state.proofs.put.put.Goals as goal

pub returns : goal.returns
unfolding name_bytes
returns c =
    let a = c.args in
    let p = a.p in
    let b = a.state.now in
    let o = head_size + a.at * entry_size in
    let k = c.put_numbers.ensures in
    let name_room : length p.name.bytes ≡ 255 = search rules in
    let extra_room : length p.extra.bytes ≡ 128 = search rules in
    let name_small : p.name.len < 256 = search rules in
    let extra_small : p.extra.len < 256 = search rules in
    let fits : Fits entry_l (entry_values p) = (name_small, (name_room, (extra_small, (extra_room, k.fits)))) in
    let held : c.size.result ≡ p.name.len = c.size.ensures.value ∙ sym (name_length p.name name_room name_small) in
    let name = c.put_text.ensures ∙ ap₂ (λ (n : ℕ) (bytes : List ℕ). overwrite b o (be 1 n ++ bytes)) held c.array.ensures in
    let x : List ℕ = be 1 p.name.len ++ p.name.bytes in
    let y : List ℕ = be 1 p.extra.len ++ p.extra.bytes in
    let lx : length x ≡ 256 = omega (arith, name_room) in
    let ly : length y ≡ 129 = omega (arith, extra_room) in
    let p1 : Put b _ o x (o + 256) = record { is = name; there = omega (arith, lx) } in
    let p2 = then b _ o x _ y _ (o + tail_at) (search rules) p1 c.put_text-2.ensures (omega (arith, ly)) in
    let p3 = then b _ o (x ++ y) _ (encode tail_l (tail_values p)) _ (o + entry_size) (search rules) p2 k.state_after (omega arith) in
    ap registry_of (p3.is ∙ ap (overwrite b o) (entry_split p)) ∙ put_here b a.at p (search rules) (search rules) fits
