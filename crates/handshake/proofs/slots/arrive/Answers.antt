use Rattle.std.specs.Prelude.{Ok, Option}
use Rattle.std.specs.Option.{ok_or}
use Rattle.std.proofs.lemmas.Result.{err_from_is_err_and}
use Rattle.handshake_state.proofs.FoundLaws.{or_slot, or_refused}
use Rattle.handshake_rules.specs.Calls.{opened, arrive_of}
use Rattle.handshake_rules.specs.Endpoint.{put, lowest_free}
use Rattle.handshake_state.specs.Bytes.{endpoint_of}
use Rattle.handshake_rules.specs.declared.endpoint.Answer.TheVariants.{Arrived}
use Rattle.handshake_rules.specs.declared.endpoint.Slot.{Slot}
use Rattle.handshake_rules.specs.declared.endpoint.Stage.TheVariants.{AwaitsName}
use Rattle.handshake_rules.specs.declared.refusal.Refusal.TheVariants.{NoFreeSlot}
use Prim.Native.Nat.{ℕ}
use mathlib.Core.List.{[]}
use mathlib.Core.Path.{◌≡◌, sym, ap, ap₂, ◌∙◌}
use Rattle.handshake.proofs.slots.arrive.Goals as goal

pub returns-in_err-at : goal.returns-in_err-at
unfolding arrive_of
returns-in_err-at c =
    let n = lowest_free (endpoint_of c.args.state.now) in
    let e = ap (λ (o : Option ℕ). ok_or o NoFreeSlot) (sym c.find.ensures) ∙ sym c.ok_or.ensures.value ∙ c.in_err-at.was in
    let f = or_refused n NoFreeSlot c.in_err-at.field-0.0 e in
    let p = err_from_is_err_and c.from_residual.result c.from_residual.ensures.1 in
    rw (p.1, p.2, f.1, f.0)

pub returns : goal.returns
unfolding arrive_of
returns c =
    let g = endpoint_of c.args.state.now in
    let e = ap (λ (o : Option ℕ). ok_or o NoFreeSlot) (sym c.find.ensures) ∙ sym c.ok_or.ensures.value ∙ c.in_ok-at.was in
    let f = or_slot (lowest_free g) c.in_ok-at.at NoFreeSlot e in
    let i : c.in_ok-at.at ≡ lowest_free g = sym f.here in
    let p : endpoint_of c.put_slot.new.state ≡ put g (lowest_free g) (opened AwaitsName []) =
    c.put_slot.ensures
    ∙ ap₂ (λ (n : ℕ) (s : Slot). put g n (record { stage = AwaitsName; name = s.name; flags = s.flags; creation = s.creation; challenge = s.challenge })) i c.default.ensures in
    rw f.slot (λ j. record { answer = Ok (Arrived (i j)); endpoint = p j })
