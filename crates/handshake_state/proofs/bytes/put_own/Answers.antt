use Prim.Native.Nat.{ℕ, ◌≤◌}
use mathlib.Core.Path.{◌≡◌, sym, ◌∙◌, ap}
use mathlib.Core.List.{List, ◌++◌, append_assoc}
use native.Mathlib.Omega.{arith}
use lib.ListN.{length, length-append}
use Rattle.wire.specs.Number.{be}
use Rattle.wire.specs.Output.{overwrite}
use Rattle.wire.specs.Layout.{encode, offset, Fits}
use Rattle.wire.proofs.OutputLaws.{overwrite_join}
use Rattle.names.specs.declared.held.Name.{Name}
use Rattle.names.specs.Held.{name_of}
use Rattle.handshake_state.specs.Bytes.{own_l, own_values, endpoint_of}
use Rattle.handshake_state.proofs.BytesLaws.{own_here, own_long}
use borrow.Author.Rules.{rules}
use Rattle.handshake_state.proofs.bytes.put_own.Goals as goal

pub returns : goal.returns
unfolding name_of
returns c =
    let a = c.args in
    let st = a.state.now in
    let d = a.node in
    let n = name_of d.name.now in
    let h : List ℕ = be 1 (length d.name.now) in
    let b = c.array-name.result in
    let f : List ℕ = be 8 d.flags in
    let k : List ℕ = be 4 d.creation in
    let eb : b ≡ n.bytes = c.array-name.ensures ∙ ap (λ (x : Name). x.bytes) c.of.ensures in
    let lb : length b ≡ 255 = search rules in
    let room : length n.bytes ≡ 255 = sym (ap length eb) ∙ lb in
    let small : length d.name.now ≤ 255 = d.short in
    let fits : Fits own_l (own_values n d.flags d.creation) = (omega (arith, small), (room, (search rules, (search rules, tt)))) in
    let whole : ((h ++ b) ++ f) ++ k ≡ encode own_l (own_values n d.flags d.creation) =
    ap (λ (x : List ℕ). ((h ++ x) ++ f) ++ k) eb ∙ ap (λ (x : List ℕ). h ++ x) (append_assoc n.bytes f k) in
    let e : c.put-3.new.out ≡ overwrite st 0 (((h ++ b) ++ f) ++ k) =
    c.put-3.ensures
    ∙ ap (λ (x : List ℕ). overwrite x (offset own_l 3) k) (c.put-2.ensures ∙ ap (λ (x : List ℕ). overwrite x (offset own_l 2) f) (c.put_bytes.ensures ∙ ap (λ (x : List ℕ). overwrite x (offset own_l 1) b) c.put.ensures))
    ∙ ap (λ (x : List ℕ). overwrite (overwrite x (offset own_l 2) f) (offset own_l 3) k) (overwrite_join st 0 h b (offset own_l 1) (omega arith) (omega arith))
    ∙ ap (λ (x : List ℕ). overwrite x (offset own_l 3) k) (overwrite_join st 0 (h ++ b) f (offset own_l 2) (omega arith) (omega (arith, lb, length-append h b)))
    ∙ overwrite_join st 0 ((h ++ b) ++ f) k (offset own_l 3) (omega arith) (omega (arith, lb, length-append h b, length-append (h ++ b) f)) in
    ap endpoint_of (e ∙ ap (overwrite st 0) whole) ∙ own_here st n d.flags d.creation (search rules) fits (own_long n d.flags d.creation room)
