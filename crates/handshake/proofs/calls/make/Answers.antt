use borrow.Author.Tests.{not-false}
use mathlib.Core.Path.{◌≡◌, refl, sym, ◌∙◌, ap}
use mathlib.Core.Bool.{true}
use mathlib.Core.List.{List, []}
use Prim.Native.Nat.{ℕ}
use Rattle.std.specs.Prelude.{Ok}
use Rattle.std.proofs.lemmas.Result.{err_from_is_err_and}
use Rattle.names.specs.Full.{full_name}
use Rattle.names.specs.Held.{name_of}
use Rattle.handshake_rules.specs.declared.endpoint.Slot.{Slot}
use Rattle.handshake_rules.specs.Refusals.{checked}
use Rattle.handshake_rules.specs.Calls.{new_tests, new_of}
use Rattle.handshake_state.specs.Bytes.{owned_by, endpoint_of}
use Rattle.handshake_rules.proofs.CheckLaws.{none_holds}
use Rattle.handshake_rules.proofs.MessageLaws.{full_short}
use Rattle.handshake_state.proofs.BytesLaws.{none_taken}
use Rattle.handshake.proofs.calls.make.Goals as goal

passed-full : (n : List ℕ) (f : ℕ) → checked (new_tests n f) ≡ Ok tt → full_name n ≡ true
passed-full n f e = not-false (full_name n) (none_holds (new_tests n f) e).0

pub returns-in_err-check_own : goal.returns-in_err-check_own
unfolding new_of
returns-in_err-check_own c =
    let e = sym c.check_own.ensures ∙ c.in_err-check_own.was in
    let p = err_from_is_err_and c.from_residual.result c.from_residual.ensures.1 in
    rw (p.1, p.2, e) (refl, refl)

pub invariant_of-node : goal.invariant_of-node
invariant_of-node c =
    record { short = full_short c.args.name.now (passed-full c.args.name.now c.args.flags (sym c.check_own.ensures ∙ c.in_ok-check_own.was)) }

pub returns : goal.returns
unfolding new_of endpoint_of
returns c =
    let a = c.args in
    let e = sym c.check_own.ensures ∙ c.in_ok-check_own.was in
    let p = c.put_own.ensures ∙ ap (λ (l : List Slot). owned_by (name_of a.name.now) a.flags a.creation (record { name = name_of []; flags = 0; creation = 0; slots = l })) none_taken in
    rw e (refl, p)
