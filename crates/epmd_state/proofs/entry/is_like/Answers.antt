-- a record whose name has k bytes
use Prim.Native.Nat.{ℕ, ◌≤◌}
use mathlib.Core.Path.{◌≡◌, refl, sym, ◌∙◌, ap}
use mathlib.Core.Bool.{Bool, true, false, true≢false}
use mathlib.Core.List.{List}
use native.Mathlib.Omega.{arith}
use borrow.Author.Tests.{eq-eqb, ne_eqb, eqb-true}
use lib.ListN.{length}
use lib.Dec.{eqb}
use Rattle.wire.specs.Number.{be_at}
use Rattle.wire.proofs.RunLaws.{part_length}
use Rattle.names.specs.Held.{name_bytes}
use Rattle.epmd_state.specs.Bytes.{entry_size, entry_by, is_like}
use Rattle.epmd_state.proofs.BytesLaws.{name_here, last_here}
use borrow.Author.Rules.{rules}
use Rattle.epmd_state.proofs.entry.is_like.Goals as goal

module _ (b : List ℕ) (k : ℕ) (e : k ≡ be_at 1 0 b) (h : k ≤ 255) (l : length b ≡ entry_size) where
  name_long : length (name_bytes (entry_by b).name) ≡ k
  name_long = ap length (name_here b k e h) ∙ part_length 1 k b (omega (arith, h, l))

  -- the length is another
  other_length : (n last : ℕ) → (k ≡ n → ⊥) → false ≡ is_like n last (entry_by b)
  other_length n last d = sym (rw (ne_eqb (length (name_bytes (entry_by b).name)) n (λ q. d (sym name_long ∙ q))) refl)

  -- the length is n: the last byte decides
  this-length : (n last : ℕ) → k ≡ n → is_like n last (entry_by b) ≡ eqb (be_at 1 n b) last
  this-length n last q =
      rw (eq-eqb (length (name_bytes (entry_by b).name)) n (name_long ∙ q))
      (ap (λ (m : ℕ). eqb m last) (last_here b k e h l ∙ ap (λ (j : ℕ). be_at 1 j b) q))

  other_last : (n last : ℕ) → (be_at 1 n b ≡ last → ⊥) → false ≡ is_like n last (entry_by b)
  other_last n last d = by (eqb k n) refl where
    by : (t : Bool) → eqb k n ≡ t → false ≡ is_like n last (entry_by b)
    by true q = sym (this-length n last (eqb-true k n q) ∙ ne_eqb (be_at 1 n b) last d)
    by false q = other_length n last (λ z. absurd (true≢false (sym (eq-eqb k n z) ∙ q)))

  this-last : (n last : ℕ) → be_at 1 n b ≡ last → eqb k n ≡ is_like n last (entry_by b)
  this-last n last z = by (eqb k n) refl where
    by : (t : Bool) → eqb k n ≡ t → t ≡ is_like n last (entry_by b)
    by true q = sym (this-length n last (eqb-true k n q) ∙ eq-eqb (be_at 1 n b) last z)
    by false q = other_length n last (λ w. absurd (true≢false (sym (eq-eqb k n w) ∙ q)))

pub returns-then-n-gt-NAME_ROOM : goal.returns-then-n-gt-NAME_ROOM
returns-then-n-gt-NAME_ROOM c =
    let a = c.args in
    let k : c.get-len.result ≤ 255 = search rules in
    other_length a.place.now c.get-len.result c.get-len.ensures k (search rules) a.n a.last (λ q. omega (arith, k, q, c.if-n-gt-NAME_ROOM.true))

pub returns-then-get-last : goal.returns-then-get-last
returns-then-get-last c =
    let a = c.args in
    let k : c.get-len.result ≤ 255 = search rules in
    other_last a.place.now c.get-len.result c.get-len.ensures k (search rules) a.n a.last (λ q. c.if-get-last.true (c.get.ensures ∙ ap (λ (j : ℕ). be_at 1 j a.place.now) (omega arith) ∙ q))

pub returns : goal.returns
returns c =
    let a = c.args in
    let k : c.get-len.result ≤ 255 = search rules in
    this-last a.place.now c.get-len.result c.get-len.ensures k (search rules) a.n a.last (ap (λ (j : ℕ). be_at 1 j a.place.now) (omega arith) ∙ sym c.get.ensures ∙ omega (arith, c.if-get-last.false))
