-- What the code finds at a place of a text: a word, a digit, a port, the end of a line.
use Rattle.std.specs.Prelude.{ℕ, zero, suc, ◌+◌, ◌*◌, ◌-◌, Bool, cond, Option, Some, None, List, [], ◌∷◌, ◌++◌, length, get_or, ltb, leb, eqb}
use Rattle.wire.specs.Run.{part, same_bytes}
use Rattle.wire.specs.Decimal.{decimal}
use Rattle.epmd_rules.specs.Requests.{line_room}
use Rattle.epmd_rules.specs.Replies.{port_word}
use Rattle.epmd_client_rules.specs.Readings.{most}
use Rattle.epmd_client_names.specs.declared.text.Tail.{Tail}

-- the most bytes that 64 lines have
abbrev pub longest : ℕ
longest = most * line_room

-- what follows the name in a line
unfoldable pub tail_text : ℕ → List ℕ
tail_text port = port_word ++ (decimal port ++ (10 ∷ []))

-- whether the bytes w stand at a place
unfoldable pub has_at : List ℕ → ℕ → List ℕ → Bool
has_at s at w = same_bytes w (part at (length w) s)

-- whether a space stands at a place: a name may end before it
unfoldable pub space_at : List ℕ → ℕ → Bool
space_at s i = eqb (get_or s i 0) 32

-- the digit at a place
unfoldable pub digit_at : List ℕ → ℕ → Option ℕ
digit_at s i = cond (leb (length s) i) None (cond (ltb (get_or s i 0) 48) None (cond (ltb 57 (get_or s i 0)) None (Some (get_or s i 0 - 48))))

abbrev pub found : ℕ → ℕ → Option Tail
found port next = Some (record { port = port; next = next })

-- a newline at a place, behind a port
unfoldable pub closed_at : List ℕ → ℕ → ℕ → Option Tail
closed_at s i v = cond (ltb 65535 v) None (cond (leb (length s) i) None (cond (eqb (get_or s i 0) 10) (found v (i + 1)) None))

-- by the digit that stands there, if any
abbrev pub by_digit : Option ℕ → Option Tail → (ℕ → Option Tail) → Option Tail
by_digit None end more = end
by_digit (Some d) end more = more d

-- at most k digits more behind those that say v, and the newline; behind a leading zero there is none
unfoldable pub port_from : ℕ → List ℕ → ℕ → ℕ → Option Tail
port_from zero s i v = closed_at s i v
port_from (suc k) s i v =
    by_digit (digit_at s i) (closed_at s i v) (λ d. cond (eqb v 0) None (cond (ltb 6553 v) None (port_from k s (i + 1) (v * 10 + d))))

unfoldable pub port_at : List ℕ → ℕ → Option Tail
port_at s i = by_digit (digit_at s i) None (λ d. port_from 4 s (i + 1) d)

-- what follows a name, at a place: the port, and where the next line begins
unfoldable pub tail_at : List ℕ → ℕ → Option Tail
tail_at s q = cond (has_at s q port_word) (port_at s (q + 9)) None
