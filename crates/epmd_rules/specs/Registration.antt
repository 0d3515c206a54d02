-- 01, The mapper. "A place holds a connection number (32 bits), port, node type, protocol, highest and lowest version, name, extra and creation."
use Rattle.std.specs.Prelude.{ℕ, ◌-◌, Bool, ◌&&◌, not, List, [], ◌++◌, length, take, replicate, eqb}
use Rattle.wire.specs.Run.{same_bytes}
use Rattle.names.specs.Held.{name_of, name_bytes}
use Rattle.epmd_rules.specs.declared.registration.Extra.{Extra}
use Rattle.epmd_rules.specs.declared.registration.Registration.{Registration}

-- the value that holds at most 128 extra bytes, and the bytes that a value holds
unfoldable pub extra_of : List ℕ → Extra
extra_of bs = record { bytes = bs ++ replicate (128 - length bs) 0; len = length bs }

unfoldable pub extra_bytes : Extra → List ℕ
extra_bytes e = take e.len e.bytes

-- the value of these 128 bytes, of which the first count
abbrev pub held_extra : List ℕ → ℕ → Extra
held_extra bs n = record { bytes = bs; len = n }

-- "A free place is all zero and empty."
unfoldable pub free : Registration
free =
    record {
      name = name_of [];
      extra = extra_of [];
      kind = 0;
      protocol = 0;
      port = 0;
      highest = 0;
      lowest = 0;
      connection = 0;
      creation = 0;
    }

-- what counts as free: no name is registered there
unfoldable pub is_free : Registration → Bool
is_free p = eqb (length (name_bytes p.name)) 0

-- "Equal means equal bytes."
unfoldable pub has_name : List ℕ → Registration → Bool
has_name name p = not (is_free p) && same_bytes (name_bytes p.name) name

unfoldable pub has_connection : ℕ → Registration → Bool
has_connection c p = not (is_free p) && eqb p.connection c
