use Rattle.handshake_state.proofs.BytesLaws.{slots_count, slots_at}
use Rattle.handshake_state.proofs.FoundLaws.{some_found, none_found}
use Rattle.handshake_rules.specs.declared.endpoint.Slot.{Slot}
use Rattle.handshake_rules.specs.Endpoint.{sought, free_slot}
use Rattle.handshake_state.specs.Bytes.{slots_in, slot_by, endpoint_of}
use Rattle.wire.specs.Lookup.{first_at}
use Rattle.wire.proofs.LookupLaws.{first_skip, first_hit, first_end}
use lib.ListN.{length, get_or}
use Prim.Native.Nat.{◌<◌}
use native.Mathlib.Omega.{arith}
use mathlib.Core.Path.{◌≡◌, sym, ◌∙◌, ap}
use mathlib.Core.List.{List}
use borrow.Author.Rules.{rules}
use Rattle.handshake_state.proofs.lookup.find.Goals as goal

pub returns-then-is_sought : goal.returns-then-is_sought
unfolding endpoint_of
returns-then-is_sought c =
    let a = c.args in
    let i = c.loop-i.i in
    let p = sought a.what a.name.now in
    let xs : List Slot = slots_in a.state.now in
    let h : i < length xs = omega (arith, slots_count a.state.now) in
    let here : get_or xs i free_slot ≡ slot_by c.of.result.bytes.now = slots_at a.state.now i (search rules) ∙ ap slot_by (sym c.of.ensures) in
    some_found (first_at p xs) i
    (omega (arith, c.loop-i.invariant, first_hit p xs i free_slot h (ap p here ∙ sym c.is_sought.ensures ∙ c.if-is_sought.true))) (search rules)

pub loop-i-preserved : goal.loop-i-preserved
loop-i-preserved c =
    let a = c.args in
    let i = c.loop-i.i in
    let p = sought a.what a.name.now in
    let xs : List Slot = slots_in a.state.now in
    let h : i < length xs = omega (arith, slots_count a.state.now) in
    let here : get_or xs i free_slot ≡ slot_by c.of.result.bytes.now = slots_at a.state.now i (search rules) ∙ ap slot_by (sym c.of.ensures) in
    omega (arith, c.loop-i.invariant, first_skip p xs i free_slot h (ap p here ∙ sym c.is_sought.ensures ∙ c.if-is_sought.false))

pub returns : goal.returns
unfolding endpoint_of
returns c =
    let a = c.args in
    let p = sought a.what a.name.now in
    let xs : List Slot = slots_in a.state.now in
    none_found (first_at p xs) (omega (arith, c.loop-i.invariant, first_end p xs c.loop-i.i (omega (arith, slots_count a.state.now))))
