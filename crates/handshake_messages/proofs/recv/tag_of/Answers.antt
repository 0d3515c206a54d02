use Prim.Native.Nat.{ℕ}
use mathlib.Core.Path.{◌≡◌, refl, sym}
use mathlib.Core.List.{List, [], ◌∷◌}
use native.Mathlib.Omega.{arith}
use lib.ListN.{length}
use borrow.Author.Rules.{rules}
use Rattle.wire.specs.Number.{be_at}
use Rattle.wire.specs.Run.{part}
use Rattle.handshake_messages.proofs.recv.tag_of.Goals as goal

no_byte : (xs : List ℕ) → length xs ≡ 0 → be_at 1 0 xs ≡ 0
unfolding be_at part
no_byte [] e = refl
no_byte (x ∷ xs) e = absurd (omega (arith, e))

pub returns-then-is_empty : goal.returns-then-is_empty
returns-then-is_empty c = sym (no_byte c.args.body.now (search rules))
