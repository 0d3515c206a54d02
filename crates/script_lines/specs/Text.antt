-- Hexadecimal text both ways, and which text is a decimal number.
use Rattle.std.specs.Prelude.{ℕ, ◌+◌, ◌*◌, ◌-◌, ◌/◌, ◌%◌, Bool, true, cond, ◌&&◌, not, List, [], ◌∷◌, length, get_or, eqb, leb, ltb}
use Rattle.wire.specs.Decimal.{value}

-- a character's value as a digit, '0' to '9' and 'a' to 'f'; 16 is that of no digit
unfoldable pub digit_value : ℕ → ℕ
digit_value c = cond (leb 48 c && leb c 57) (c - 48) (cond (leb 97 c && leb c 102) (c - 87) 16)

-- every character is a digit below the radix
unfoldable pub all_digits : ℕ → List ℕ → Bool
all_digits radix [] = true
all_digits radix (c ∷ cs) = ltb (digit_value c) radix && all_digits radix cs

-- "an even number of lower-case hex digits, or none"
unfoldable pub is_hex : List ℕ → Bool
is_hex cs = eqb (length cs % 2) 0 && all_digits 16 cs

-- the bytes that such text says: two digits a byte, the higher first
unfoldable pub unhex : List ℕ → List ℕ
unhex [] = []
unhex (a ∷ []) = []
unhex (a ∷ b ∷ cs) = (digit_value a * 16 + digit_value b) ∷ unhex cs

-- the digit of a value below 16
unfoldable pub digit_char : ℕ → ℕ
digit_char v = cond (ltb v 10) (48 + v) (87 + v)

-- bytes as such text
unfoldable pub hex_of : List ℕ → List ℕ
hex_of [] = []
hex_of (b ∷ bs) = digit_char (b / 16) ∷ digit_char (b % 16) ∷ hex_of bs

-- a zero leads, and is not the only digit
unfoldable pub leads_zero : List ℕ → Bool
leads_zero cs = leb 2 (length cs) && eqb (get_or cs 0 0) 48

-- "decimal up to 4,294,967,295 without leading zeros"
unfoldable pub is_decimal : List ℕ → Bool
is_decimal cs = leb 1 (length cs) && all_digits 10 cs && not (leads_zero cs) && leb (value cs) 4294967295
