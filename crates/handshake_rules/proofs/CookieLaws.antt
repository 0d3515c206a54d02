-- Laws of cookies and of the digest. Assumes nothing.
use Prim.Native.Nat.{ℕ, ◌+◌}
use mathlib.Core.Path.{◌≡◌, refl, sym, ◌∙◌, ap}
use mathlib.Core.List.{List, [], ◌∷◌, ◌++◌}
use native.Mathlib.Omega.{arith}
use lib.ListN.{length, take, drop, length-append}
use lib.Seq.{take_at}
use Rattle.wire.specs.Output.{overwrite, written}
use Rattle.wire.proofs.OutputLaws.{written_two}
use Rattle.md5_digest.specs.Md5.{md5}
use Rattle.handshake_rules.specs.Cookie.{digest_of, chosen}

pub digest_sixteen : (c : ℕ) (k : List ℕ) → length (digest_of c k) ≡ 16
unfolding digest_of md5
digest_sixteen c k = refl

-- a cookie of the own, or none
pub chosen_none : (own standard : List ℕ) → length own ≡ 0 → chosen own standard ≡ standard
chosen_none [] standard h = refl
chosen_none (b ∷ bs) standard h = absurd (omega arith)

pub chosen_own : (own standard : List ℕ) → (length own ≡ 0 → ⊥) → chosen own standard ≡ own
chosen_own [] standard h = absurd (h refl)
chosen_own (b ∷ bs) standard h = refl

-- two texts that are written side by side at the front of a buffer
pub joined : (zs a b : List ℕ) (n m : ℕ) → n ≡ length a → m ≡ n + length b → take m (overwrite (overwrite zs 0 a) n b) ≡ a ++ b
unfolding written
joined zs a b n m e f =
    ap (take m) (written_two zs a b n (sym e)) ∙ take_at (a ++ b) (drop (length (a ++ b)) zs) m (omega (arith, length-append a b))
