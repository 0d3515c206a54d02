-- What helper functions ask and give: an operation with its round's auxiliary function, a round by its table, and a block filled from a zeroed one.
-- Assumes nothing.
use Rattle.std.specs.Prelude.{◌≡◌, ℕ, ◌+◌, ◌^◌, ◌<◌, Bool, true, ◌&&◌, ◌==◌, List, [], ◌∷◌, length, nat_lt, slice_index}
use Rattle.md5_digest.specs.Md5.{T, op}
use Rattle.md5_digest.specs.declared.step.State.{State}

-- what a call with three words may give is what m says
abbrev pub Computes : (ℕ → ℕ → ℕ → ℕ → Type 0) → (ℕ → ℕ → ℕ → ℕ) → Type 0
Computes post m = (x y z r : ℕ) → x < 2 ^ 32 → y < 2 ^ 32 → z < 2 ^ 32 → post x y z r → r ≡ m x y z

-- an entry of a round's table: k, s, i and T[i]
abbrev pub Entry : Type 0
Entry = ℕ × ℕ × ℕ × ℕ

-- k names a word of a block, s is a rotation of a word, and the last is T[i]
abbrev pub IsOperation : Entry → Type 0
IsOperation o = (o.0 < 16) × (0 < o.1) × (o.1 < 32) × (o.3 ≡ T o.2)

abbrev pub are_operations : List Entry → Bool
are_operations [] = true
are_operations (o ∷ os) = (nat_lt o.0 16 && nat_lt 0 o.1 && nat_lt o.1 32 && (o.3 == T o.2)) && are_operations os

-- what the operation does, with the function m
abbrev pub does : (ℕ → ℕ → ℕ → ℕ) → Entry → List ℕ → State → State
does m o = op m o.0 o.1 o.2

-- the operations of a round by its table, with the function m
abbrev pub listed : (ℕ → ℕ → ℕ → ℕ) → List Entry → List (List ℕ → State → State)
listed m [] = []
listed m (o ∷ os) = does m o ∷ listed m os

-- the block b is the 64 bytes of l from at on, with zeros behind the end of l
pub record Shows (l b : List ℕ) (at : ℕ) : Type 0 where
  pub long : length b ≡ 64
  pub same : (j : ℕ) → j < 64 → slice_index b j ≡ slice_index l (at + j)
