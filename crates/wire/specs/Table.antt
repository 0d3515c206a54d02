-- A table of records in bytes, over any width and any way of reading one: registrations and slots lie in their states so.
use Rattle.std.specs.Prelude.{ℕ, zero, suc, ◌+◌, List, [], ◌∷◌, ◌++◌}
use Rattle.wire.specs.Run.{part}

-- n records of w bytes each, the first at an offset, each read from its own bytes alone
unfoldable pub table : {A : Type 0} → (List ℕ → A) → ℕ → ℕ → ℕ → List ℕ → List A
table read w zero at xs = []
table read w (suc n) at xs = read (part at w xs) ∷ table read w n (at + w) xs

-- and written: the bytes of each, one behind the other
unfoldable pub table_bytes : {A : Type 0} → (A → List ℕ) → List A → List ℕ
table_bytes write [] = []
table_bytes write (x ∷ xs) = write x ++ table_bytes write xs

-- what holds of every element of a list
unfoldable pub Each : {A : Type 0} → (A → Type 0) → List A → Type 0
Each P [] = Unit
Each P (x ∷ xs) = P x × Each P xs
