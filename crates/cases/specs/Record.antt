-- Cases one behind the other, each behind its length in two bytes.
use Rattle.std.specs.Prelude.{ℕ, ◌+◌, cond, ◌&&◌, List, length, leb, Option, Some, None}
use Rattle.std.specs.declared.ops.Range.{Range}
use Rattle.wire.specs.Number.{be_at}

-- where the case lies whose length stands at an offset, if it is there whole: its first byte, and the one behind its last
unfoldable pub record_at : List ℕ → ℕ → Option (Range ℕ)
record_at xs at =
    cond (leb (at + 2) (length xs) && leb (at + 2 + be_at 2 at xs) (length xs))
    (Some (record { start = at + 2; end = at + 2 + be_at 2 at xs }))
    None
