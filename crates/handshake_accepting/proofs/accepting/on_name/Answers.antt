-- Each arm is the plan of its greeting, which no cookie changes.
use Rattle.handshake_rules.proofs.StageLaws.{settle_any}
use Rattle.handshake_rules.specs.Accepting.{on_name, heard, welcomes}
use Rattle.handshake_rules.specs.Plans.{Done, answered, settled, finished, render, concluded}
use Rattle.handshake_rules.specs.Messages.{status_message, ok, ok_simultaneous, nok, not_allowed, alive}
use Rattle.handshake_rules.specs.Endpoint.{free_slot}
use Rattle.handshake_rules.specs.State.{Endpoint, Freed, Told}
use Rattle.wire.specs.Output.{written}
use Rattle.handshake_rules.specs.declared.accepting.Greeting.{Greeting}
use Rattle.std.specs.Prelude.{None, Some}
use Rattle.handshake_rules.specs.declared.endpoint.Slot.{Slot}
use Rattle.handshake_rules.specs.declared.endpoint.Stage.TheVariants.{AwaitsAlive, AwaitsReply}
use mathlib.Core.List.{List}
use mathlib.Core.Path.{◌≡◌, refl, sym, ap, ◌∙◌}
use Prim.Native.Nat.{ℕ}
use Rattle.handshake_state.specs.Bytes.{endpoint_of}
use Rattle.handshake_accepting.proofs.accepting.on_name.Goals as goal

module _ (g : Endpoint) (s : ℕ) (n : List ℕ) (flags creation challenge : ℕ) (out : List ℕ) where
  abbrev due : Greeting → List ℕ → Done
  due x k = concluded k k g s (on_name g n flags creation challenge x)

  -- t is the slot that the arm brings
  arm : (slot : Slot) (other : Freed) (bytes : List ℕ) {x y m : Greeting} → m ≡ x → m ≡ y → ((k : List ℕ) → due y k ≡ answered g s slot other bytes)
      → {t : Slot} → t ≡ slot → {r : Told} {next : List ℕ} → (r ≡ (answered g s t other bytes).told) × (next ≡ written bytes out)
      → ((k : List ℕ) → r ≡ (due x k).told) × ((k : List ℕ) → next ≡ written (due x k).bytes out)
  arm slot other bytes {x} f e d i h =
      settle_any (due x) (λ k. answered g s slot other bytes) (λ k. ap (λ (z : Greeting). due z k) (sym f ∙ e) ∙ d k) out
      (λ k. h.0 ∙ ap (λ (z : Slot). (answered g s z other bytes).told) i) (λ k. h.1)

pub returns-in-NotAllowed : goal.returns-in-NotAllowed
unfolding settled finished render
returns-in-NotAllowed c =
    let a = c.args in
    let p = a.peer in
    let g = endpoint_of a.state.now in
    arm g a.at p.name.now p.flags p.creation a.challenge a.out.now free_slot None (status_message not_allowed) c.greeting.ensures c.in-NotAllowed.is (λ k. refl) c.default.ensures c.say.ensures

pub returns-in-Nok : goal.returns-in-Nok
unfolding settled finished render
returns-in-Nok c =
    let a = c.args in
    let p = a.peer in
    let g = endpoint_of a.state.now in
    arm g a.at p.name.now p.flags p.creation a.challenge a.out.now free_slot None (status_message nok) c.greeting.ensures c.in-Nok.is (λ k. refl) c.default-in-Nok.ensures c.say-in-Nok.ensures

pub returns-in-OkSimultaneous : goal.returns-in-OkSimultaneous
unfolding settled finished render
returns-in-OkSimultaneous c =
    let a = c.args in
    let p = a.peer in
    let g = endpoint_of a.state.now in
    arm g a.at p.name.now p.flags p.creation a.challenge a.out.now (heard p.name.now p.flags p.creation AwaitsReply a.challenge) (Some c.in-OkSimultaneous.mine) (welcomes g ok_simultaneous a.challenge) c.greeting.ensures c.in-OkSimultaneous.is (λ k. refl) c.heard-met.ensures c.welcome.ensures

pub returns-in-Alive : goal.returns-in-Alive
unfolding settled finished render
returns-in-Alive c =
    let a = c.args in
    let p = a.peer in
    let g = endpoint_of a.state.now in
    arm g a.at p.name.now p.flags p.creation a.challenge a.out.now (heard p.name.now p.flags p.creation AwaitsAlive 0) None (status_message alive) c.greeting.ensures c.in-Alive.is (λ k. refl) c.heard.ensures c.say-in-Alive.ensures

pub returns-in-Ok : goal.returns-in-Ok
unfolding settled finished render
returns-in-Ok c =
    let a = c.args in
    let p = a.peer in
    let g = endpoint_of a.state.now in
    arm g a.at p.name.now p.flags p.creation a.challenge a.out.now (heard p.name.now p.flags p.creation AwaitsReply a.challenge) None (welcomes g ok a.challenge) c.greeting.ensures c.in-Ok.is (λ k. refl) c.heard-met-in-Ok.ensures c.welcome-in-Ok.ensures
