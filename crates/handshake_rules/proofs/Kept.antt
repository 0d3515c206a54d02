-- No call changes the endpoint's own name, flags and creation, or the number of its slots. So what making tests holds of every endpoint that calls
-- hand back. Assumes nothing.
use borrow.Author.Tests.{not-false}
use Rattle.std.specs.Prelude.{None, Some, Ok, Err}
use Prim.Native.Nat.{ℕ}
use mathlib.Core.Path.{◌≡◌, refl, sym, ◌∙◌, ap}
use mathlib.Core.Bool.{true}
use mathlib.Core.List.{List, [], ◌∷◌}
use native.Mathlib.Omega.{arith}
use lib.ListN.{length, length-set}
use Rattle.names.specs.Full.{full_name}
use Rattle.handshake_rules.specs.declared.endpoint.Slot.{Slot}
use Rattle.handshake_rules.specs.State.{Endpoint, Freed}
use Rattle.handshake_rules.specs.State.{Made}
use Rattle.handshake_rules.specs.Refusals.{checked, unless, Check}
use Rattle.handshake_rules.specs.Flags.{good_flags, flag_test}
use Rattle.handshake_rules.specs.Endpoint.{free_slot, fresh, put, free_other}
use Rattle.handshake_rules.specs.Cookie.{Cookies}
use Rattle.handshake_rules.specs.Plans.{stop, go, Plan, sure, proven}
use Rattle.handshake_rules.specs.Calls.{new_tests, not_made, new_of, awaited}
use Rattle.handshake_rules.specs.Runs.{Call, next, Asked, ends, MadeOf}
use Rattle.handshake_rules.specs.Claims.{KeptWhole, MadeFresh}
use Rattle.handshake_rules.proofs.FlagLaws.{none_bad, good_flags_lem}
use Rattle.handshake_rules.proofs.CheckLaws.{none_holds}
use Rattle.handshake_rules.proofs.PlanLaws.{Does, after_call}

-- h has what g has but for its slots, of which there are as many
pub record Alike (g h : Endpoint) : Type 0 where
  pub name : h.name ≡ g.name
  pub flags : h.flags ≡ g.flags
  pub creation : h.creation ≡ g.creation
  pub slots : length h.slots ≡ length g.slots

alike : (g : Endpoint) → Alike g g
alike g = record { name = refl; flags = refl; creation = refl; slots = refl }

alike_put : (g h : Endpoint) (s : ℕ) (x : Slot) → Alike g h → Alike g (put h s x)
alike_put g h s x o = record { name = o.name; flags = o.flags; creation = o.creation; slots = length-set h.slots s x ∙ o.slots }

pub alike_other : (g : Endpoint) (o : Freed) → Alike g (free_other g o)
alike_other g None = alike g
alike_other g (Some s) = alike_put g g s free_slot (alike g)

alike_plan : (g : Endpoint) (s : ℕ) (p : Plan) → Does (Alike g) g s p
alike_plan g s (sure (stop r)) = tt
alike_plan g s (sure (go a)) = alike_put g (free_other g a.other) s a.slot (alike_other g a.other)
alike_plan g s (proven c d a) = alike_put g (free_other g a.other) s a.slot (alike_other g a.other)

pub alike_call : (g : Endpoint) (c : Call) (k : Cookies) → Alike g (next g c k)
alike_call g c k =
    after_call (Alike g) g (alike g) (λ s. alike_put g g s free_slot (alike g)) c k (λ n size h. alike_put g g _ _ (alike g))
    (λ h. alike_put g g _ _ (alike g)) (λ s m h size x t. alike_plan g s (awaited g s m h).rule)

alike_run : (g : Endpoint) (l : List Asked) → Alike g (ends g l)
unfolding ends
alike_run g [] = alike g
alike_run g (a ∷ rest) =
    let p = alike_call g a.call a.cookies in
    let q = alike_run (next g a.call a.cookies) rest in
    record {
      name = q.name ∙ p.name;
      flags = q.flags ∙ p.flags;
      creation = q.creation ∙ p.creation;
      slots = q.slots ∙ p.slots;
    }

-- what was made has passed both tests
record Passed (n : List ℕ) (f c : ℕ) (g : Endpoint) : Type 0 where
  is : g ≡ fresh n f c
  full : full_name n ≡ true
  good : good_flags f ≡ true

made_passed : (n : List ℕ) (f c : ℕ) (g : Endpoint) → MadeOf n f c g → Passed n f c g
unfolding new_of
made_passed n f c g = by (checked (new_tests n f)) refl where
  by : (x : Check) → checked (new_tests n f) ≡ x
      → unless not_made (record { making = Ok tt; endpoint = fresh n f c }) x ≡ record { making = Ok tt; endpoint = g } → Passed n f c g
  by (Ok _) t e =
      let h = none_holds (new_tests n f) t in
      record { is = ap (λ (m : Made). m.endpoint) (sym e); full = not-false (full_name n) h.0; good = good_flags_lem f (none_bad (flag_test f) h.1) }
  by (Err r) t e = let q : Err r ≡ Ok tt = ap (λ (m : Made). m.making) e in let z : ◌≡◌ {A = ℕ} 0 1 = cc in absurd (omega arith)

pub made_fresh : MadeFresh
made_fresh n f c g m = (made_passed n f c g m).is

pub kept_whole : KeptWhole
kept_whole n f c g m l =
    let p = made_passed n f c g m in
    let q = alike_run g l in
    record {
      name = q.name ∙ ap (λ (h : Endpoint). h.name) p.is;
      full = p.full;
      flags = q.flags ∙ ap (λ (h : Endpoint). h.flags) p.is;
      good = p.good;
      creation = q.creation ∙ ap (λ (h : Endpoint). h.creation) p.is;
      slots = q.slots ∙ ap (λ (h : Endpoint). length h.slots) p.is;
    }
