-- The version of the boundary: it steps when a struct, a size or the meaning of a call changes.
use Rattle.std.specs.Prelude.{ℕ}

abbrev pub abi : ℕ
abi = 2
