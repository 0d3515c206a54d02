-- 01, The script program: an input as lines, and all that a run prints of it.
use Rattle.std.specs.Prelude.{ℕ, suc, ◌<◌, ◌≡◌, Option, IfSome, cond, List, [], ◌∷◌, ◌++◌, length, take, drop, eqb, ltb}
use Rattle.std.specs.Io.KnownBytes.{Appends}
use Rattle.wire.specs.Output.{written}
use Rattle.script_lines.specs.State.{Script, script_of}
use Rattle.script_lines.specs.declared.run.Reading.{Reading}
use Rattle.script_lines.specs.Script.{line_of, end_of, started}

-- the characters before the first newline
unfoldable pub up_to : List ℕ → List ℕ
up_to [] = []
up_to (c ∷ cs) = cond (eqb c 10) [] (c ∷ up_to cs)

-- the lines of an input of which `held` is read and belongs to its first. "The last line may lack its newline."
unfoldable pub lines_from : List ℕ → List ℕ → List (List ℕ)
lines_from held [] = cond (eqb (length held) 0) [] (held ∷ [])
lines_from held (c ∷ cs) = cond (eqb c 10) (held ∷ lines_from [] cs) (lines_from (held ++ (c ∷ [])) cs)

-- what a run prints from a state on
unfoldable pub printed_from : Script → List (List ℕ) → List ℕ
printed_from s [] = (end_of s).bytes
printed_from s (l ∷ ls) = (line_of s l).bytes ++ printed_from (line_of s l).script ls

-- what a run has still to print, with some characters of a line held and so much of the input to come
abbrev pub to_print : Script → List ℕ → List ℕ → List ℕ
to_print s held input = printed_from s (lines_from held input)

-- and of a whole input
unfoldable pub printed : List ℕ → List ℕ
printed input = printed_from started (lines_from [] input)

-- ---- an input that comes in parts

-- a line over 800 characters is refused whatever it holds: its first 801 are kept
abbrev pub kept : List ℕ → List ℕ
kept l = take 801 l

-- what is taken from a part: what is then held of a line, the bytes that are printed, and what is left of the part
pub record Taking : Type 0 where
  pub script : Script
  pub held : List ℕ
  pub bytes : List ℕ
  pub rest : List ℕ

-- the line that ends in the part xs, of which some is held already; or all that is there
unfoldable pub take_of : Script → List ℕ → List ℕ → Taking
take_of s held xs =
    cond (ltb (length (up_to xs)) (length xs))
    (record {
      script = (line_of s (kept (held ++ up_to xs))).script;
      held = [];
      bytes = (line_of s (kept (held ++ up_to xs))).bytes;
      rest = drop (suc (length (up_to xs))) xs;
    })
    (record { script = s; held = kept (held ++ xs); bytes = []; rest = [] })

-- a call takes so: it leaves the run and what is held so, tells the count written and the rest, and writes at the front of the output
pub record Takes (t : Taking) (reading : Reading) (n : ℕ) (left out out' : List ℕ) : Type 0 where
  pub script : script_of reading.run ≡ t.script
  pub held : reading.held ≡ t.held
  pub count : n ≡ length t.bytes
  pub rest : left ≡ t.rest
  pub output : out' ≡ written t.bytes out

-- of a part xs some bytes were printed, and the rest is still to be printed, whatever comes behind the part
pub record Printed (s : Script) (held xs : List ℕ) (s' : Script) (held' rest : List ℕ) : Type 0 where
  pub bytes : List ℕ
  pub is : (more : List ℕ) → to_print s held (xs ++ more) ≡ bytes ++ to_print s' held' (rest ++ more)

-- and a writer of known bytes got just those
pub record PrintedOn (s : Script) (held xs : List ℕ) (s' : Script) (held' rest : List ℕ) (out out' : Option (List ℕ)) : Type 0 where
  pub printed : Printed s held xs s' held' rest
  pub appended : Appends out out' printed.bytes

-- from a reader of known bytes to a writer of known bytes: all that the input prints. No run reads more often than the bound says
abbrev pub PrintsAll : Option (List ℕ) → Option (List ℕ) → Option (List ℕ) → Type 0
PrintsAll input out out' = IfSome input (λ xs. length xs < 18446744073709551615 → Appends out out' (printed xs))

-- ---- what is left where a write fails

-- a line was taken that prints something, and its bytes may not have been written
pub record TakesUnprinted (t : Taking) (reading : Reading) (out out' : List ℕ) : Type 0 where
  pub takes : Takes t reading (length t.bytes) t.rest out out'
  pub prints : 0 < length t.bytes

-- of a part xs all that stands before a line was printed, and that line prints something: the run is as it leaves it
pub record PrintedUntil (s : Script) (held xs : List ℕ) (reading : Reading) : Type 0 where
  pub script : Script
  pub held' : List ℕ
  pub rest : List ℕ
  pub before : Printed s held xs script held' rest
  pub after : script_of reading.run ≡ (take_of script held' rest).script
  pub prints : 0 < length (take_of script held' rest).bytes
