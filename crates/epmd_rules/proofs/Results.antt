-- What ALIVE2 is told (specs/Claims, ALIVE2's Result). Assumes nothing.
use Prim.Native.Nat.{ℕ, ◌%◌, ◌<◌}
use mathlib.Core.Path.{◌≡◌, refl, sym, ap, subst, ◌∙◌}
use mathlib.Core.Bool.{Bool, true, false, cond}
use mathlib.Core.List.{List, [], ◌∷◌}
use native.Mathlib.Omega.{arith}
use borrow.Author.Tests.{eqb-true, eqb-false, ne_eqb}
use lib.Dec.{eqb, leb}
use Rattle.std.specs.Prelude.{Ok}
use lib.ListN.{length, get_or}
use Rattle.wire.specs.Frame.{body}
use Rattle.wire.specs.Layout.{int_at, run_at}
use Rattle.epmd_rules.specs.declared.registration.Registration.{Registration}
use Rattle.epmd_rules.specs.State.{Registry}
use Rattle.epmd_rules.specs.declared.request.Request.TheVariants.{Alive2}
use Rattle.epmd_rules.specs.Messages.{alive2_req}
use Rattle.epmd_rules.specs.Registry.{lowest_free, filled}
use Rattle.epmd_rules.specs.Requests.{examine_of}
use Rattle.epmd_rules.specs.Replies.{alive2_reply}
use Rattle.epmd_rules.specs.Serve.{Outcome, replied, result_of, registration_of, request_of}
use Rattle.epmd_rules.specs.Claims.{NameInUse, ConnectionRegistered, NoPlace, LowestFilled, result_told, Alive2Tells, ResultTells, CreationFieldZero}
use Rattle.epmd_rules.proofs.ServeLaws.{ResultBy, name_in_use, connection_registered, no_place, registered, result_is, result_by_lem, result_fits, call_asked, alive2_fails, alive2_fills}
use Rattle.epmd_rules.proofs.PlaceLaws.{named_exactly, unnamed_exactly, connected_exactly, unconnected_exactly, full_exactly, room_exactly, lowest_is_free, lower_taken}
use Rattle.epmd_rules.proofs.Calls.{filled_here, filled_other}
use Rattle.epmd_rules.proofs.Reachable.{always_sound}

-- the byte behind the tag is Result, in both replies
reply_tells : (highest result c : ℕ) → result < 256 → get_or (alive2_reply highest result c) 1 256 ≡ result
unfolding alive2_reply
reply_tells highest result c h = by (leb 6 highest) refl where
  by : (t : Bool) → leb 6 highest ≡ t → get_or (alive2_reply highest result c) 1 256 ≡ result
  by true e = rw e (omega arith)
  by false e = rw e (omega arith)

module _ (r : Registry) (c : ℕ) (frame : List ℕ) (given : ℕ) (a : examine_of frame given ≡ Ok Alive2) where
  abbrev name : List ℕ
  name = run_at alive2_req 6 (body frame)

  abbrev highest : ℕ
  highest = int_at alive2_req 4 (body frame)

  abbrev outcome : Outcome
  outcome = request_of r c frame given

  abbrev result : ℕ
  result = result_of r c name

  abbrev new : Registration
  new = registration_of c r.next (body frame)

  fails : (result ≡ 0 → ⊥) → outcome ≡ replied r (alive2_reply highest result 0)
  fails h = call_asked r c frame given (Ok Alive2) a ∙ alive2_fails r c (body frame) result refl h

  fills : result ≡ 0 → outcome ≡ replied (filled r new) (alive2_reply highest 0 r.next)
  fills h = call_asked r c frame given (Ok Alive2) a ∙ alive2_fills r c (body frame) result refl h

  -- the call tells Result
  told : result_told outcome ≡ result
  told = by (eqb result 0) refl where
    by : (t : Bool) → eqb result 0 ≡ t → result_told outcome ≡ result
    by true e =
        let z = eqb-true result 0 e in
        ap result_told (fills z) ∙ reply_tells highest 0 r.next (omega arith) ∙ sym z
    by false e = ap result_told (fails (eqb-false result 0 e)) ∙ reply_tells highest result 0 (result_fits r c name)

  -- the test that gave the Result told, and the Result told where a test gives it
  by_told : {k : ℕ} → result_told outcome ≡ k → ResultBy r c name k
  by_told e = subst (ResultBy r c name) (sym told ∙ e) (result_by_lem r c name)

  told_by : {k : ℕ} → ResultBy r c name k → result_told outcome ≡ k
  told_by t = told ∙ result_is r c name t

  module _ (long : length r.registrations ≡ 64) where
    one : ResultBy r c name 1 → NameInUse r name
    one (name_in_use n) = (named_exactly r long name).0 n

    two : ResultBy r c name 2 → (NameInUse r name → ⊥) × ConnectionRegistered r c
    two (connection_registered n k) = ((unnamed_exactly r long name).0 n, (connected_exactly r long c).0 k)

    three : ResultBy r c name 3 → (NameInUse r name → ⊥) × (ConnectionRegistered r c → ⊥) × NoPlace r
    three (no_place n k f) = ((unnamed_exactly r long name).0 n, (unconnected_exactly r long c).0 k, (full_exactly r long).0 f)

    nothing : ResultBy r c name 0 → (NameInUse r name → ⊥) × (ConnectionRegistered r c → ⊥) × (NoPlace r → ⊥)
    nothing (registered n k f) = ((unnamed_exactly r long name).0 n, (unconnected_exactly r long c).0 k, (room_exactly r long).0 f)

    lowest : ResultBy r c name 0 → LowestFilled r new (filled r new)
    unfolding filled
    lowest (registered n k f) =
        record {
          place = lowest_free r;
          within = f;
          was_free = lowest_is_free r long f;
          lowest = lower_taken r long;
          here = filled_here r new long f;
          elsewhere = filled_other r new long f;
          next = refl;
          port = refl;
        }

    tells : Alive2Tells r c name new outcome
    tells =
        record {
          name_in_use = (λ e. one (by_told e), λ p. told_by (name_in_use ((named_exactly r long name).1 p)));
          connection_registered =
              (λ e. two (by_told e), λ p. told_by (connection_registered ((unnamed_exactly r long name).1 p.0) ((connected_exactly r long c).1 p.1)));
          no_place = (
            λ e. three (by_told e),
            λ p. told_by (no_place ((unnamed_exactly r long name).1 p.0) ((unconnected_exactly r long c).1 p.1) ((full_exactly r long).1 p.2)),
          );
          registered = (
            λ e. nothing (by_told e),
            λ p. told_by (registered ((unnamed_exactly r long name).1 p.0) ((unconnected_exactly r long c).1 p.1) ((room_exactly r long).1 p.2)),
          );
          fills = λ e. subst (LowestFilled r new) (sym (ap (λ (o : Outcome). o.registry) (fills (sym told ∙ e)))) (lowest (by_told e));
          keeps = λ h. ap (λ (o : Outcome). o.registry) (fails (λ e. h (told ∙ e)));
        }

  zero_field : (result_told outcome ≡ 0 → ⊥)
      → outcome.bytes ≡ cond (leb 6 highest) (118 ∷ result_told outcome ∷ 0 ∷ 0 ∷ 0 ∷ 0 ∷ []) (121 ∷ result_told outcome ∷ 0 ∷ 0 ∷ [])
  unfolding alive2_reply
  zero_field h =
      let z : result ≡ 0 → ⊥ = λ (e : result ≡ 0). h (told ∙ e) in
      let m : result % 256 ≡ result = omega (arith, result_fits r c name) in
      ap (λ (o : Outcome). o.bytes) (fails z) ∙ rw (told, ne_eqb result 0 z, m)

pub result_tells : ResultTells
result_tells r c frame given reach a = tells r c frame given a (always_sound r reach).places

pub creation_field_zero : CreationFieldZero
creation_field_zero = zero_field
