use Rattle.std.specs.Prelude.{Ok}
use Rattle.handshake_rules.specs.declared.endpoint.Answer.TheVariants.{Closed}
use Rattle.handshake_rules.specs.declared.endpoint.Slot.{Slot}
use Rattle.handshake_rules.specs.declared.endpoint.Stage.{Stage}
use Rattle.handshake_rules.specs.declared.endpoint.Stage.TheVariants.{Free, AwaitsName, AwaitsAlive, AwaitsReply, AwaitsStatus, AwaitsChallenge, AwaitsAck, Connected}
use Rattle.handshake_rules.specs.State.{Endpoint}
use Rattle.handshake_rules.specs.Calls.{close_of}
use Rattle.handshake_rules.specs.Endpoint.{kind, slot_at, vacant}
use Rattle.handshake_state.specs.Bytes.{endpoint_of}
use Rattle.handshake_state.proofs.BytesLaws.{slot_past}
use borrow.Author.Rules.{rules}
use Rattle.std.proofs.lemmas.Bool.{leb-true}
use lib.Dec.{eqb, leb}
use mathlib.Core.Bool.{Bool, true, false, ◌||◌}
use Prim.Native.Nat.{ℕ}
use mathlib.Core.List.{List}
use mathlib.Core.Path.{◌≡◌, refl, sym, ap, ◌∙◌}
use Rattle.handshake.proofs.slots.close.Goals as goal

-- a stage that is not free is taken, and past the last slot all are free
taken : (st : Stage) → (st ≡ Free → ⊥) → eqb (kind st) 0 ≡ false
taken Free n = absurd (n refl)
taken AwaitsName n = refl
taken AwaitsAlive n = refl
taken AwaitsReply n = refl
taken AwaitsStatus n = refl
taken AwaitsChallenge n = refl
taken AwaitsAck n = refl
taken Connected n = refl

near : (b : List ℕ) (i : ℕ) → ((slot_at (endpoint_of b) i).stage ≡ Free → ⊥) → leb 32 i ≡ false
near b i n = by (leb 32 i) refl where
  by : (t : Bool) → leb 32 i ≡ t → leb 32 i ≡ false
  by true e = absurd (n (ap (λ (s : Slot). s.stage) (sym (slot_past b i (leb-true 32 i e)))))
  by false e = e

idle : (b : List ℕ) (i : ℕ) → (slot_at (endpoint_of b) i).stage ≡ Free → vacant (endpoint_of b) i ≡ true
idle b i e = ap (λ (st : Stage). leb 32 i || eqb (kind st) 0) e ∙ by (leb 32 i) where
  by : (t : Bool) → t || true ≡ true
  by true = refl
  by false = refl

pub returns-then-eq : goal.returns-then-eq
unfolding close_of
returns-then-eq c =
    let a = c.args in
    let s : c.stage_at.result ≡ Free = search rules in
    rw (idle a.state.now a.at (sym c.stage_at.ensures ∙ s))

pub returns : goal.returns
unfolding close_of
returns c =
    let a = c.args in
    let s : c.stage_at.result ≡ Free → ⊥ = search rules in
    let n : (slot_at (endpoint_of a.state.now) a.at).stage ≡ Free → ⊥ = λ e. s (c.stage_at.ensures ∙ e) in
    rw (near a.state.now a.at n, taken (slot_at (endpoint_of a.state.now) a.at).stage n) (ap (λ (e : Endpoint). record { answer = Ok Closed; endpoint = e }) c.without.ensures)
