-- What is proved of the definitions themselves, beside the contracts that cite them. Each claim names the law in proofs/ that is its proof.
use Rattle.std.specs.Prelude.{ℕ, ◌^◌, ◌<◌, ◌≡◌, true, Some, List, [], ◌∷◌, ◌++◌}
use Rattle.wire.specs.Claims.{Octets}
use Rattle.wire.specs.Decimal.{decimal, value}
use Rattle.script_lines.specs.State.{Script}
use Rattle.script_lines.specs.Text.{is_hex, unhex, hex_of, is_decimal}
use Rattle.script_lines.specs.declared.line.Item.TheVariants.{Conn}
use Rattle.script_lines.specs.Line.{item_of, conn_key}
use Rattle.script_lines.specs.Lines.{printed, to_print, take_of}

-- bytes written as text are read back (ReadBack.hex_back)
abbrev pub HexBack : Type 0
HexBack = (bs : List ℕ) → Octets bs → ((is_hex (hex_of bs) ≡ true) × (unhex (hex_of bs) ≡ bs))

-- and no other text is taken (ReadBack.hex_only)
abbrev pub HexOnly : Type 0
HexOnly = (cs : List ℕ) → is_hex cs ≡ true → hex_of (unhex cs) ≡ cs

-- the decimal text of every number below 2 to the 32 is taken for that number (ReadBack.decimal_back)
abbrev pub DecimalBack : Type 0
DecimalBack = (n : ℕ) → n < 2 ^ 32 → ((is_decimal (decimal n) ≡ true) × (value (decimal n) ≡ n))

-- and no other text is taken (ReadBack.decimal_taken)
abbrev pub DecimalTaken : Type 0
DecimalTaken = (cs : List ℕ) → is_decimal cs ≡ true → ((value cs < 2 ^ 32) × (cs ≡ decimal (value cs)))

-- a line names connection n exactly if it is `conn=` and the decimal text of n, a number below 2 to the 32 (ConnLine.conn_line)
abbrev pub ConnLine : Type 0
ConnLine =
    (l : List ℕ) (n : ℕ)
    → (item_of l ≡ Some (Conn n) → ((n < 2 ^ 32) × (l ≡ conn_key ++ decimal n))) × (n < 2 ^ 32 → item_of (conn_key ++ decimal n) ≡ Some (Conn n))

-- an input that comes in parts prints what the whole input prints: what is taken from a part xs prints the first of it, and leaves the rest to print,
-- whatever comes behind (PartLaws.parts_print)
abbrev pub PartsPrint : Type 0
PartsPrint =
    (s : Script) (held xs more : List ℕ)
    → to_print s held (xs ++ more) ≡ (take_of s held xs).bytes ++ to_print (take_of s held xs).script (take_of s held xs).held ((take_of s held xs).rest ++ more)

-- "Whole case: `op=req`, `conn=9`, `hex=00016e` prints `result=0`, `hex=00001111`." The last newline may lack (WholeCase.whole_case)
abbrev pub whole_in : List ℕ
whole_in =
    111 ∷ 112 ∷ 61 ∷ 114 ∷ 101 ∷ 113 ∷ 10 ∷ 99 ∷ 111 ∷ 110 ∷ 110 ∷ 61 ∷ 57 ∷ 10
    ∷ 104 ∷ 101 ∷ 120 ∷ 61 ∷ 48 ∷ 48 ∷ 48 ∷ 49 ∷ 54 ∷ 101 ∷ []

abbrev pub whole_out : List ℕ
whole_out =
    114 ∷ 101 ∷ 115 ∷ 117 ∷ 108 ∷ 116 ∷ 61 ∷ 48 ∷ 10
    ∷ 104 ∷ 101 ∷ 120 ∷ 61 ∷ 48 ∷ 48 ∷ 48 ∷ 48 ∷ 49 ∷ 49 ∷ 49 ∷ 49 ∷ 10 ∷ []

abbrev pub WholeCase : Type 0
WholeCase = (printed whole_in ≡ whole_out) × (printed (whole_in ++ (10 ∷ [])) ≡ whole_out)

-- ---- all of it (Promises.promises): a claim that is not proved is missed here

pub record Promises : Type 0 where
  pub hex_back : HexBack
  pub hex_only : HexOnly
  pub decimal_back : DecimalBack
  pub decimal_taken : DecimalTaken
  pub conn_line : ConnLine
  pub parts_print : PartsPrint
  pub whole_case : WholeCase
