use Prim.Native.Nat.{ℕ, ◌<◌}
use mathlib.Core.Path.{◌≡◌, refl, sym, ◌∙◌}
use mathlib.Core.Bool.{Bool, true, false}
use mathlib.Core.List.{List}
use native.Mathlib.Omega.{arith}
use lib.Dec.{eqb}
use lib.ListN.{length, get_or}
use Rattle.std.specs.Cmp.Lexicographic.{pointwise}
use Rattle.std.proofs.lemmas.Grind.{common_steps, same_number_lists}
use Rattle.wire.specs.Run.{same_bytes}
use Rattle.wire.proofs.RunLaws.{same_decides, same_false, same_std}
use Rattle.wire.proofs.run.same_bytes.Goals as goal

-- a test that is true just where two runs are as long, and have the same byte at each place
tells : (xs ys : List ℕ) (r : Bool) → (r ≡ true → length xs ≡ length ys) → (r ≡ true → (k : ℕ) → k < length xs → get_or xs k 0 ≡ get_or ys k 0)
    → (r ≡ false → xs ≡ ys → ⊥) → r ≡ same_bytes xs ys
tells xs ys true l h g = sym ((same_decides xs ys).1 (same_number_lists xs ys (l refl) (h refl)))
tells xs ys false l h g = sym (same_false xs ys (g refl))

-- std's test of equality is true just where two runs are equal
std_tells : (xs ys : List ℕ) → (pointwise eqb xs ys ≡ same_bytes xs ys) × (pointwise eqb xs ys ≡ true → xs ≡ ys) × (xs ≡ ys → pointwise eqb xs ys ≡ true)
std_tells xs ys = (same_std xs ys, λ e. (same_decides xs ys).0 (sym (same_std xs ys) ∙ e), λ e. same_std xs ys ∙ (same_decides xs ys).1 e)

pub returns : goal.returns
returns c =
    tells c.args.a.now c.args.b.now _ (λ e. grind (arith, common_steps, std_tells)) (λ e k l. grind (arith, common_steps, std_tells))
    (λ e f. grind (arith, common_steps, std_tells))
