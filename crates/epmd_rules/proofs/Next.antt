-- The next creation, call by call (specs/Claims). Assumes nothing.
use Prim.Native.Nat.{ℕ}
use mathlib.Core.Path.{◌≡◌, refl, ap, ◌∙◌}
use mathlib.Core.Bool.{Bool, true, false, cond, ◌&&◌}
use mathlib.Core.List.{List}
use borrow.Author.Tests.{eq-eqb, eqb-true}
use lib.Dec.{eqb}
use Rattle.std.specs.Prelude.{Result, Ok, Err}
use Rattle.wire.specs.Frame.{body}
use Rattle.wire.specs.Layout.{run_at}
use Rattle.wire.proofs.RunLaws.{and_left, and_right}
use Rattle.epmd_rules.specs.State.{Registry}
use Rattle.epmd_rules.specs.declared.request.Request.{Request}
use Rattle.epmd_rules.specs.declared.request.Request.TheVariants.{Alive2, PortPlease2, Names}
use Rattle.epmd_rules.specs.declared.refusal.Refusal.{Refusal}
use Rattle.epmd_rules.specs.Messages.{alive2_req}
use Rattle.epmd_rules.specs.Registry.{stepped, filled}
use Rattle.epmd_rules.specs.Requests.{examine_of}
use Rattle.epmd_rules.specs.Serve.{Outcome, result_of, registration_of, request_of}
use Rattle.epmd_rules.specs.Claims.{request, close, is_alive2, registers, NextSteps}
use Rattle.epmd_rules.proofs.ServeLaws.{call_asked, alive2_fills}
use Rattle.epmd_rules.proofs.Calls.{After, same, more, after_request, Afterwards, none_freed, one_freed, after_close}

is_alive2_lem : (q : Result Request Refusal) → is_alive2 q ≡ true → q ≡ Ok Alive2
is_alive2_lem (Ok Alive2) e = refl
is_alive2_lem (Ok PortPlease2) e = cc
is_alive2_lem (Ok Names) e = cc
is_alive2_lem (Err n) e = cc

next_filled : (r : Registry) (c : ℕ) (b : List ℕ) → (filled r (registration_of c r.next b)).next ≡ stepped r.next
unfolding filled
next_filled r c b = refl

module _ (r : Registry) (c : ℕ) (frame : List ℕ) (given : ℕ) where
  abbrev result : ℕ
  result = result_of r c (run_at alive2_req 6 (body frame))

  stepping : registers r (request c frame given) ≡ true → (request_of r c frame given).registry.next ≡ stepped r.next
  stepping e =
      let a = is_alive2_lem (examine_of frame given) (and_left (is_alive2 (examine_of frame given)) (eqb result 0) e) in
      let z = eqb-true result 0 (and_right (is_alive2 (examine_of frame given)) (eqb result 0) e) in
      ap (λ (o : Outcome). o.registry.next) (call_asked r c frame given (Ok Alive2) a ∙ alive2_fills r c (body frame) result refl z)
      ∙ next_filled r c (body frame)

  registering : examine_of frame given ≡ Ok Alive2 → result ≡ 0 → registers r (request c frame given) ≡ true
  registering a z = ap (λ (q : Result Request Refusal). is_alive2 q && eqb result 0) a ∙ eq-eqb result 0 z

pub next_steps : NextSteps
next_steps r (request c frame given) = by (registers r (request c frame given)) refl (after_request r c frame given) where
  by : (t : Bool) → registers r (request c frame given) ≡ t → After r c frame given (request_of r c frame given).registry
      → (request_of r c frame given).registry.next ≡ cond t (stepped r.next) r.next
  by true e a = stepping r c frame given e
  by false e (same q) = ap (λ (x : Registry). x.next) q
  by false e (more a z q) = cc (registering r c frame given a z)
next_steps r (close c) = by (after_close r c) where
  by : {t : Registry} → Afterwards r c t → t.next ≡ r.next
  by (none_freed q) = ap (λ (x : Registry). x.next) q
  by (one_freed g q) = ap (λ (x : Registry). x.next) q
