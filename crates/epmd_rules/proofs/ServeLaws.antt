-- Laws of the calls, by the cases that code makes. Assumes nothing.
use Prim.Native.Nat.{ℕ, ◌≤◌, ◌<◌}
use mathlib.Core.Path.{◌≡◌, sym, ap, subst}
use mathlib.Core.Logic.{◌⊎◌, inl, inr}
use mathlib.Core.List.{List}
use Rattle.std.specs.Prelude.{Result}
use native.Mathlib.Omega.{arith}
use borrow.Author.Tests.{eq-eqb, ne_eqb, lt-ltb, le-ltb}
use Rattle.wire.specs.Frame.{body}
use Rattle.wire.specs.Layout.{int_at, run_at}
use Rattle.epmd_rules.specs.State.{Registry}
use Rattle.epmd_rules.specs.declared.request.Request.{Request}
use Rattle.epmd_rules.specs.declared.refusal.Refusal.{Refusal}
use Rattle.epmd_rules.specs.Messages.{alive2_req}
use Rattle.epmd_rules.specs.Registry.{by_name, by_connection, lowest_free, filled}
use Rattle.epmd_rules.specs.Requests.{examine_of}
use Rattle.epmd_rules.specs.Replies.{alive2_reply}
use Rattle.epmd_rules.specs.Serve.{replied, result_of, registration_of, alive2_of, outcome_of, request_of}
use Rattle.epmd_rules.proofs.PlaceLaws.{below}

-- a call is what its frame asks for
pub call_asked : (r : Registry) (c : ℕ) (frame : List ℕ) (given : ℕ) (q : Result Request Refusal) → examine_of frame given ≡ q → request_of r c frame given ≡ outcome_of r c (body frame) q
unfolding request_of
call_asked r c frame given q e = ap (outcome_of r c (body frame)) e

-- ---- Result

-- Result by the tests that give it: laws and claims know `result_by` by this alone
pub data ResultBy (r : Registry) (c : ℕ) (name : List ℕ) : ℕ → Type 0 where
  name_in_use : by_name r name < 64 → ResultBy r c name 1
  connection_registered : 64 ≤ by_name r name → by_connection r c < 64 → ResultBy r c name 2
  no_place : 64 ≤ by_name r name → 64 ≤ by_connection r c → 64 ≤ lowest_free r → ResultBy r c name 3
  registered : 64 ≤ by_name r name → 64 ≤ by_connection r c → lowest_free r < 64 → ResultBy r c name 0

-- what a test finds decides Result, and some test does
pub result_is : (r : Registry) (c : ℕ) (name : List ℕ) {k : ℕ} → ResultBy r c name k → result_of r c name ≡ k
unfolding result_of
result_is r c name (name_in_use n) = rw (lt-ltb (by_name r name) 64 n)
result_is r c name (connection_registered n k) = rw (le-ltb (by_name r name) 64 n, lt-ltb (by_connection r c) 64 k)
result_is r c name (no_place n k f) = rw (le-ltb (by_name r name) 64 n, le-ltb (by_connection r c) 64 k, le-ltb (lowest_free r) 64 f)
result_is r c name (registered n k f) = rw (le-ltb (by_name r name) 64 n, le-ltb (by_connection r c) 64 k, lt-ltb (lowest_free r) 64 f)

pub result_by_lem : (r : Registry) (c : ℕ) (name : List ℕ) → ResultBy r c name (result_of r c name)
result_by_lem r c name = by (below (by_name r name) 64) (below (by_connection r c) 64) (below (lowest_free r) 64) where
  is : {k : ℕ} → ResultBy r c name k → ResultBy r c name (result_of r c name)
  is t = subst (ResultBy r c name) (sym (result_is r c name t)) t

  by : (by_name r name < 64) ⊎ (64 ≤ by_name r name) → (by_connection r c < 64) ⊎ (64 ≤ by_connection r c) → (lowest_free r < 64) ⊎ (64 ≤ lowest_free r)
      → ResultBy r c name (result_of r c name)
  by (inl n) _ _ = is (name_in_use n)
  by (inr n) (inl k) _ = is (connection_registered n k)
  by (inr n) (inr k) (inl f) = is (registered n k f)
  by (inr n) (inr k) (inr f) = is (no_place n k f)

-- with Result 0 no place has the name, none the connection, and one is free
pub record Admitted (r : Registry) (c : ℕ) (name : List ℕ) : Type 0 where
  pub no_name : 64 ≤ by_name r name
  pub no_connection : 64 ≤ by_connection r c
  pub room : lowest_free r < 64

pub result_admits : (r : Registry) (c : ℕ) (name : List ℕ) → result_of r c name ≡ 0 → Admitted r c name
result_admits r c name e = by (subst (ResultBy r c name) e (result_by_lem r c name)) where
  by : ResultBy r c name 0 → Admitted r c name
  by (registered n k f) = record { no_name = n; no_connection = k; room = f }

-- Result is told in one byte
pub result_fits : (r : Registry) (c : ℕ) (name : List ℕ) → result_of r c name < 256
result_fits r c name = by (result_by_lem r c name) where
  by : {k : ℕ} → ResultBy r c name k → k < 256
  by (name_in_use n) = omega arith
  by (connection_registered n k) = omega arith
  by (no_place n k f) = omega arith
  by (registered n k f) = omega arith

-- ---- what an ALIVE2 body gets

module _ (r : Registry) (c : ℕ) (b : List ℕ) (k : ℕ) (e : k ≡ result_of r c (run_at alive2_req 6 b)) where
  pub alive2_fails : (k ≡ 0 → ⊥) → alive2_of r c b ≡ replied r (alive2_reply (int_at alive2_req 4 b) k 0)
  unfolding alive2_of
  alive2_fails h = rw (← e, ne_eqb k 0 h)

  pub alive2_fills : k ≡ 0 → alive2_of r c b ≡ replied (filled r (registration_of c r.next b)) (alive2_reply (int_at alive2_req 4 b) 0 r.next)
  unfolding alive2_of
  alive2_fills h = rw (← e, eq-eqb k 0 h)
