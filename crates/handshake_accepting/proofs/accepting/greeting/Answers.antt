-- A peer that has no taken slot has none of any kind; otherwise the tests are those of the definition, one by one.
use Rattle.handshake_state.proofs.BytesLaws.{here_long}
use Rattle.handshake_state.proofs.FoundLaws.{found_slot, found_some, found_none}
use Rattle.handshake_rules.proofs.SlotLaws.{no_slot}
use Rattle.handshake_rules.specs.Accepting.{greeting, contest, is_greater}
use Rattle.handshake_rules.specs.Endpoint.{is_slot, lowest}
use Rattle.handshake_rules.specs.declared.endpoint.Sought.TheVariants.{AcceptedFrom, StartedTo, ConnectedTo, AnyTaken}
use Rattle.handshake_rules.specs.State.{Freed}
use Rattle.names.specs.Held.{name_bytes}
use Rattle.wire.specs.Run.{order, same_bytes}
use Rattle.handshake_state.specs.Bytes.{endpoint_of}
use borrow.Author.Tests.{ltb-false}
use native.Mathlib.Omega.{arith}
use Prim.Native.Nat.{ℕ, ◌≤◌}
use mathlib.Core.Bool.{true, false, not}
use mathlib.Core.List.{List}
use mathlib.Core.Path.{◌≡◌, sym, ap, ◌∙◌}
use Rattle.std.specs.Prelude.{is_some}
use Rattle.handshake_accepting.proofs.accepting.greeting.Goals as goal

pub returns-then-same_bytes : goal.returns-then-same_bytes
unfolding greeting
returns-then-same_bytes c = rw (ap (λ (n : List ℕ). same_bytes n c.args.name.now) (sym c.own_part-own.ensures.result_value) ∙ sym c.same_bytes.ensures ∙ c.if-same_bytes.true)

pub returns-then-is_none : goal.returns-then-is_none
unfolding greeting
returns-then-is_none c =
    let g = endpoint_of c.args.state.now in
    let n = c.args.name.now in
    let many = here_long c.args.state.now in
    let e : is_slot (lowest AnyTaken n g) ≡ false =
    sym (found_slot (lowest AnyTaken n g)) ∙ ap (λ (o : Freed). is_some o) (sym c.find.ensures) ∙ c.is_none.ensures ∙ ap not c.if-is_none.true in
    let t : 32 ≤ lowest AnyTaken n g = ltb-false (lowest AnyTaken n g) 32 e in
    rw (
      ap (λ (n : List ℕ). same_bytes n c.args.name.now) (sym c.own_part-own.ensures.result_value) ∙ sym c.same_bytes.ensures ∙ c.if-same_bytes.false,
      no_slot g many AcceptedFrom n (λ e. let z : ◌≡◌ {A = ℕ} 0 1 = cc in omega arith) t,
      no_slot g many StartedTo n (λ e. let z : ◌≡◌ {A = ℕ} 0 1 = cc in omega arith) t,
      no_slot g many ConnectedTo n (λ e. let z : ◌≡◌ {A = ℕ} 0 1 = cc in omega arith) t,
    )

pub returns-then-is_some : goal.returns-then-is_some
unfolding greeting
returns-then-is_some c =
    let l = lowest AcceptedFrom c.args.name.now (endpoint_of c.args.state.now) in
    let f : is_slot l ≡ true = sym (found_slot l) ∙ ap (λ (o : Freed). is_some o) (sym c.find-2.ensures) ∙ sym c.is_some.ensures ∙ c.if-is_some.true in
    rw (ap (λ (n : List ℕ). same_bytes n c.args.name.now) (sym c.own_part-own.ensures.result_value) ∙ sym c.same_bytes.ensures ∙ c.if-same_bytes.false, f)

pub returns-in-Some : goal.returns-in-Some
unfolding greeting
returns-in-Some c =
    let a = c.args in
    let l = lowest AcceptedFrom c.args.name.now (endpoint_of c.args.state.now) in
    let f : is_slot l ≡ false = sym (found_slot l) ∙ ap (λ (o : Freed). is_some o) (sym c.find-2.ensures) ∙ sym c.is_some.ensures ∙ c.if-is_some.false in
    let m = found_some (lowest StartedTo a.name.now (endpoint_of a.state.now)) c.in-Some.mine (sym c.find-3.ensures ∙ c.in-Some.is) in
    rw (ap (λ (n : List ℕ). same_bytes n c.args.name.now) (sym c.own_part-own.ensures.result_value) ∙ sym c.same_bytes.ensures ∙ c.if-same_bytes.false, f, m.slot)
    (c.contest.ensures ∙ ap (λ (n : List ℕ). contest (is_greater (order a.name.now n)) c.in-Some.mine) c.own_part-own.ensures.result_value ∙ ap (contest (is_greater (order a.name.now (name_bytes (endpoint_of a.state.now).name)))) (sym m.here))

pub returns-then-is_some-2 : goal.returns-then-is_some-2
unfolding greeting
returns-then-is_some-2 c =
    let a = c.args in
    let g = endpoint_of a.state.now in
    let l = lowest AcceptedFrom a.name.now g in
    let k = lowest ConnectedTo a.name.now g in
    let f : is_slot l ≡ false = sym (found_slot l) ∙ ap (λ (o : Freed). is_some o) (sym c.find-2.ensures) ∙ sym c.is_some.ensures ∙ c.if-is_some.false in
    let m = found_none (lowest StartedTo a.name.now g) (sym c.find-3.ensures ∙ c.in-None.is) in
    let j : is_slot k ≡ true = sym (found_slot k) ∙ ap (λ (o : Freed). is_some o) (sym c.find-in-None.ensures) ∙ sym c.is_some-in-None.ensures ∙ c.if-is_some-2.true in
    rw (ap (λ (n : List ℕ). same_bytes n c.args.name.now) (sym c.own_part-own.ensures.result_value) ∙ sym c.same_bytes.ensures ∙ c.if-same_bytes.false, f, m, j)

pub returns-else-is_some-2 : goal.returns-else-is_some-2
unfolding greeting
returns-else-is_some-2 c =
    let a = c.args in
    let g = endpoint_of a.state.now in
    let l = lowest AcceptedFrom a.name.now g in
    let k = lowest ConnectedTo a.name.now g in
    let f : is_slot l ≡ false = sym (found_slot l) ∙ ap (λ (o : Freed). is_some o) (sym c.find-2.ensures) ∙ sym c.is_some.ensures ∙ c.if-is_some.false in
    let m = found_none (lowest StartedTo a.name.now g) (sym c.find-3.ensures ∙ c.in-None.is) in
    let j : is_slot k ≡ false = sym (found_slot k) ∙ ap (λ (o : Freed). is_some o) (sym c.find-in-None.ensures) ∙ sym c.is_some-in-None.ensures ∙ c.if-is_some-2.false in
    rw (ap (λ (n : List ℕ). same_bytes n c.args.name.now) (sym c.own_part-own.ensures.result_value) ∙ sym c.same_bytes.ensures ∙ c.if-same_bytes.false, f, m, j)
