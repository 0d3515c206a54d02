-- Bytes as text.
use Rattle.std.specs.Prelude.{ℕ, ◌/◌, ◌%◌, false, List, [], ◌∷◌}
use Rattle.std.specs.Fmt.{digit_glyph}

-- two digits, the higher first, '0' to '9' and 'a' to 'f'
abbrev pub hex_of_byte : ℕ → List ℕ
hex_of_byte b = digit_glyph false (b / 16) ∷ digit_glyph false (b % 16) ∷ []
