-- 01, The script program: what a line is. "`op=req`, `conn=` decimal up to 4,294,967,295 without leading zeros, `hex=` an even number of
-- lower-case hex digits, or none".
use Rattle.std.specs.Prelude.{ℕ, Bool, cond, List, [], ◌∷◌, length, take, drop, ltb, Option, Some, None}
use Rattle.wire.specs.Decimal.{value}
use Rattle.wire.specs.Run.{same_bytes}
use Rattle.script_lines.specs.declared.line.Item.{Item}
use Rattle.script_lines.specs.declared.line.Item.TheVariants.{Op, Conn, Hex}
use Rattle.script_lines.specs.Text.{is_hex, unhex, is_decimal}

-- "op=req"
abbrev pub op_req : List ℕ
op_req = 111 ∷ 112 ∷ 61 ∷ 114 ∷ 101 ∷ 113 ∷ []

-- "conn="
abbrev pub conn_key : List ℕ
conn_key = 99 ∷ 111 ∷ 110 ∷ 110 ∷ 61 ∷ []

-- "hex="
abbrev pub hex_key : List ℕ
hex_key = 104 ∷ 101 ∷ 120 ∷ 61 ∷ []

unfoldable pub starts_with : List ℕ → List ℕ → Bool
starts_with key l = same_bytes (take (length key) l) key

unfoldable pub conn_item : List ℕ → Option Item
conn_item cs = cond (is_decimal cs) (Some (Conn (value cs))) None

unfoldable pub hex_item : List ℕ → Option Item
hex_item cs = cond (is_hex cs) (Some Hex) None

-- nothing: "A line .. malformed or over 800 characters". The newline is none of them
unfoldable pub item_of : List ℕ → Option Item
item_of l =
    cond (ltb 800 (length l)) None
    (cond (same_bytes l op_req) (Some Op)
    (cond (starts_with conn_key l) (conn_item (drop 5 l))
    (cond (starts_with hex_key l) (hex_item (drop 4 l)) None)))

-- the bytes of a line that is Hex
abbrev pub frame_of : List ℕ → List ℕ
frame_of l = unhex (drop 4 l)
