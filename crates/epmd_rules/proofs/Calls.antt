-- Theorems of single calls (specs/Claims). Assumes nothing.
use Prim.Native.Nat.{ℕ, ◌+◌, ◌≤◌, ◌<◌}
use mathlib.Core.Path.{◌≡◌, refl, ap, ◌∙◌}
use mathlib.Core.Bool.{Bool, true, false, cond}
use mathlib.Core.List.{List}
use native.Mathlib.Omega.{arith}
use borrow.Author.Tests.{ne_eqb, eqb-true, eqb-false, lt-ltb, ltb-true}
use lib.Dec.{eqb, ltb}
use Rattle.std.specs.Prelude.{Result, Ok, Err}
use lib.ListN.{length, set, length-set}
use lib.Seq.{get_or-set_same, get_or-set_other}
use Rattle.wire.specs.Frame.{body}
use Rattle.wire.specs.Layout.{int_at, run_at}
use Rattle.wire.proofs.LookupLaws.{first_before, first_is}
use Rattle.names.specs.Held.{name_of, name_bytes}
use Rattle.epmd_rules.specs.declared.registration.Registration.{Registration}
use Rattle.epmd_rules.specs.State.{Registry}
use Rattle.epmd_rules.specs.declared.request.Request.{Request}
use Rattle.epmd_rules.specs.declared.request.Request.TheVariants.{Alive2, PortPlease2, Names}
use Rattle.epmd_rules.specs.declared.refusal.Refusal.{Refusal}
use Rattle.epmd_rules.specs.Messages.{alive2_req}
use Rattle.epmd_rules.specs.Registration.{free, is_free}
use Rattle.epmd_rules.specs.Registry.{entry_at, by_connection, lowest_free, stepped, filled, close_of}
use Rattle.epmd_rules.specs.Requests.{examine_of}
use Rattle.epmd_rules.specs.Replies.{alive2_reply}
use Rattle.epmd_rules.specs.Serve.{Outcome, replied, result_of, registration_of, alive2_of, port2_of, names_of, request_of, outcome_of}
use Rattle.epmd_rules.specs.Claims.{Keeps, RefusalKeeps, FailureKeeps, CreationWraps, TakenKept, FreedNext}
use Rattle.epmd_rules.proofs.ServeLaws.{call_asked, alive2_fails, alive2_fills, result_admits}
use Rattle.epmd_rules.proofs.PlaceLaws.{lowest_is_free}

-- ---- what a call tells

replied_keeps : (r s : Registry) (bs : List ℕ) → Keeps r (replied s bs)
replied_keeps r s bs = record { count = refl; kept = λ h. absurd (h refl) }

either : (r : Registry) (t : Bool) (o p : Outcome) → Keeps r o → Keeps r p → Keeps r (cond t o p)
either r true o p g h = g
either r false o p g h = h

alive2_keeps : (r : Registry) (c : ℕ) (b : List ℕ) → Keeps r (alive2_of r c b)
unfolding alive2_of
alive2_keeps r c b =
    let k = result_of r c (run_at alive2_req 6 b) in
    let h = int_at alive2_req 4 b in
    either r (eqb k 0) _ _ (replied_keeps r (filled r (registration_of c r.next b)) (alive2_reply h 0 r.next)) (replied_keeps r r (alive2_reply h k 0))

outcome_keeps : (r : Registry) (c : ℕ) (b : List ℕ) (q : Result Request Refusal) → Keeps r (outcome_of r c b q)
unfolding port2_of names_of
outcome_keeps r c b (Err n) = record { count = refl; kept = λ h. (refl, refl) }
outcome_keeps r c b (Ok Alive2) = alive2_keeps r c b
outcome_keeps r c b (Ok PortPlease2) = replied_keeps r r _
outcome_keeps r c b (Ok Names) = replied_keeps r r _

pub refusal_keeps : RefusalKeeps
unfolding request_of
refusal_keeps r c frame given = outcome_keeps r c (body frame) (examine_of frame given)

pub failure_keeps : FailureKeeps
failure_keeps r c frame given e h =
    rw (call_asked r c frame given (Ok Alive2) e, alive2_fails r c (body frame) (result_of r c (run_at alive2_req 6 (body frame))) refl h)

-- ---- creation

pub step_within : (c : ℕ) → 1 ≤ c → c ≤ 4294967295 → (1 ≤ stepped c) × (stepped c ≤ 4294967295)
unfolding stepped
step_within c l h = by (eqb c 4294967295) refl where
  by : (t : Bool) → eqb c 4294967295 ≡ t → (1 ≤ cond t 1 (c + 1)) × (cond t 1 (c + 1) ≤ 4294967295)
  by true e = (omega arith, omega arith)
  by false e = (omega arith, omega (arith, eqb-false c 4294967295 e))

pub creation_wraps : CreationWraps
unfolding stepped
creation_wraps = (refl, λ c h. rw (ne_eqb c 4294967295 (λ (e : c ≡ 4294967295). omega arith)), step_within)

-- ---- places after a call

-- the registry after a request is the one before it, or has one more registration
pub data After (r : Registry) (c : ℕ) (frame : List ℕ) (given : ℕ) (s : Registry) : Type 0 where
  same : s ≡ r → After r c frame given s
  more : examine_of frame given ≡ Ok Alive2 → result_of r c (run_at alive2_req 6 (body frame)) ≡ 0 → s ≡ filled r (registration_of c r.next (body frame))
      → After r c frame given s

pub after_request : (r : Registry) (c : ℕ) (frame : List ℕ) (given : ℕ) → After r c frame given (request_of r c frame given).registry
unfolding request_of port2_of names_of
after_request r c frame given = by (examine_of frame given) refl where
  alive2 : examine_of frame given ≡ Ok Alive2 → (t : Bool) → eqb (result_of r c (run_at alive2_req 6 (body frame))) 0 ≡ t → After r c frame given (alive2_of r c (body frame)).registry
  alive2 a true e =
      let z = eqb-true (result_of r c (run_at alive2_req 6 (body frame))) 0 e in
      more a z (rw (alive2_fills r c (body frame) (result_of r c (run_at alive2_req 6 (body frame))) refl z))
  alive2 a false e =
      let k = result_of r c (run_at alive2_req 6 (body frame)) in
      same (rw (alive2_fails r c (body frame) k refl (eqb-false k 0 e)))

  by : (q : Result Request Refusal) → examine_of frame given ≡ q → After r c frame given (outcome_of r c (body frame) q).registry
  by (Err n) a = same refl
  by (Ok Alive2) a = alive2 a (eqb (result_of r c (run_at alive2_req 6 (body frame))) 0) refl
  by (Ok PortPlease2) a = same refl
  by (Ok Names) a = same refl

module _ (r : Registry) (p : Registration) (long : length r.registrations ≡ 64) (room : lowest_free r < 64) where
  pub filled_here : entry_at (filled r p) (lowest_free r) ≡ p
  unfolding entry_at filled
  filled_here = get_or-set_same r.registrations (lowest_free r) p free (omega arith)

  pub filled_other : (i : ℕ) → (i ≡ lowest_free r → ⊥) → entry_at (filled r p) i ≡ entry_at r i
  unfolding entry_at filled
  filled_other i h = get_or-set_other r.registrations (lowest_free r) i p free h

pub taken_kept : TakenKept
taken_kept r c frame given i l h t = by (after_request r c frame given) where
  by : {s : Registry} → After r c frame given s → entry_at s i ≡ entry_at r i
  by (same e) = ap (λ (x : Registry). entry_at x i) e
  by (more a z e) =
      let room = (result_admits r c (run_at alive2_req 6 (body frame)) z).room in
      let other : i ≡ lowest_free r → ⊥ =
      λ (k : i ≡ lowest_free r). (cc (ap (λ (j : ℕ). is_free (entry_at r j)) k, lowest_is_free r l room)) in
      ap (λ (x : Registry). entry_at x i) e ∙ filled_other r (registration_of c r.next (body frame)) l room i other

-- ---- close

-- the registry with a place free
abbrev pub without : Registry → ℕ → Registry
without r k = record { port = r.port; next = r.next; registrations = set r.registrations k free }

-- the registry after a close is the one before it, or has the connection's place free
pub data Afterwards (r : Registry) (c : ℕ) (s : Registry) : Type 0 where
  none_freed : s ≡ r → Afterwards r c s
  one_freed : by_connection r c < 64 → s ≡ without r (by_connection r c) → Afterwards r c s

pub after_close : (r : Registry) (c : ℕ) → Afterwards r c (close_of r c).registry
unfolding close_of
after_close r c = by (ltb (by_connection r c) 64) refl where
  by : (t : Bool) → ltb (by_connection r c) 64 ≡ t → Afterwards r c (close_of r c).registry
  by true e = one_freed (ltb-true (by_connection r c) 64 e) (rw e)
  by false e = none_freed (rw e)

pub free_is_free : is_free free ≡ true
unfolding is_free free name_of name_bytes
free_is_free = refl

pub freed_next : FreedNext
unfolding close_of lowest_free
freed_next r c l h k =
    let i = by_connection r c in
    let xs = r.registrations in
    let n : length (set xs i free) ≡ 64 = length-set xs i free ∙ l in
    rw (lt-ltb i 64 h)
    (first_is is_free (set xs i free) free i (omega arith)
    (λ j m. ap is_free (get_or-set_other xs i j free free (λ e. omega arith)) ∙ first_before is_free xs free j (omega arith))
    (λ m. ap is_free (get_or-set_same xs i free free (omega arith)) ∙ free_is_free))
