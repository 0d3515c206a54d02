-- 01, The script program: a run, line by line.
use Rattle.std.specs.Prelude.{ℕ, Bool, true, false, cond, List, [], ◌≡◌, length, Option, Some, None}
use Rattle.wire.specs.Output.{written}
use Rattle.epmd_rules.specs.State.{Registry}
use Rattle.epmd_rules.specs.Registry.{new_of}
use Rattle.epmd_rules.specs.Serve.{request_of}
use Rattle.epmd_rules.specs.Requests.{room}
use Rattle.epmd_rules.specs.Serve as mapper
use Rattle.script_lines.specs.declared.line.Item.{Item}
use Rattle.script_lines.specs.declared.line.Item.TheVariants.{Op, Conn, Hex}
use Rattle.script_lines.specs.declared.script.Awaits.{Awaits}
use Rattle.script_lines.specs.declared.script.Awaits.TheVariants.{Operation, Connection, Frame, Nothing}
use Rattle.script_lines.specs.declared.script.Plan.{Plan}
use Rattle.script_lines.specs.declared.script.Plan.TheVariants.{Await, Serve, Fail, Rest}
use Rattle.script_lines.specs.declared.script.Run.{Run}
use Rattle.script_lines.specs.State.{Script, script_of}
use Rattle.script_lines.specs.Line.{item_of, frame_of}
use Rattle.script_lines.specs.Answer.{answer_text, result_number}

-- "It reads standard input as lines in fixed order: `op=req`, `conn=` .., `hex=`"; "A line out of order, malformed or over 800 characters .. ends
-- the run": whatever stands behind it is not looked at
abbrev pub plan_of : Awaits → Option Item → Plan
plan_of Operation (Some Op) = Await Connection
plan_of Operation (Some (Conn n)) = Fail
plan_of Operation (Some Hex) = Fail
plan_of Operation None = Fail
plan_of Connection (Some Op) = Fail
plan_of Connection (Some (Conn n)) = Await (Frame n)
plan_of Connection (Some Hex) = Fail
plan_of Connection None = Fail
plan_of (Frame c) (Some Op) = Fail
plan_of (Frame c) (Some (Conn n)) = Fail
plan_of (Frame c) (Some Hex) = Serve c
plan_of (Frame c) None = Fail
plan_of Nothing i = Rest

-- "input that ends inside a group of three"
abbrev pub inside_group : Awaits → Bool
inside_group Operation = false
inside_group Connection = true
inside_group (Frame c) = true
inside_group Nothing = false

abbrev pub has_ended : Awaits → Bool
has_ended Operation = false
has_ended Connection = false
has_ended (Frame c) = false
has_ended Nothing = true

-- the run after a step, and the bytes that it writes
pub record Outcome : Type 0 where
  pub script : Script
  pub bytes : List ℕ

-- the step comes to this outcome: it leaves the run so, tells the count written, and writes at the front of the output
pub record Steps (o : Outcome) (run : Run) (n : ℕ) (out out' : List ℕ) : Type 0 where
  pub script : script_of run ≡ o.script
  pub count : n ≡ length o.bytes
  pub output : out' ≡ written o.bytes out

-- the mapper's answer to a frame
abbrev pub answered : mapper.Outcome → Outcome
answered o = record { script = record { registry = o.registry; awaits = Operation }; bytes = answer_text (result_number o.answer) o.bytes }

-- "prints `result=19` and `hex=` and ends the run; 19 is the script's own number"
abbrev pub failure : List ℕ
failure = answer_text 19 []

abbrev pub failed : Registry → Outcome
failed r = record { script = record { registry = r; awaits = Nothing }; bytes = failure }

-- nothing is printed
abbrev pub quiet : Registry → Awaits → Outcome
quiet r a = record { script = record { registry = r; awaits = a }; bytes = [] }

-- the mapper is lent as many bytes as it asks for
abbrev pub outcome_of : Script → List ℕ → Plan → Outcome
outcome_of s l (Await a) = quiet s.registry a
outcome_of s l (Serve c) = answered (request_of s.registry c (frame_of l) room)
outcome_of s l Fail = failed s.registry
outcome_of s l Rest = quiet s.registry s.awaits

-- a line, without its newline
unfoldable pub line_of : Script → List ℕ → Outcome
line_of s l = outcome_of s l (plan_of s.awaits (item_of l))

-- what the input's end prints, by the line that is awaited
abbrev pub ending : Awaits → List ℕ
ending a = cond (inside_group a) failure []

-- the input's end
unfoldable pub end_of : Script → Outcome
end_of s = cond (inside_group s.awaits) (failed s.registry) (quiet s.registry s.awaits)

-- "It feeds a mapper of port 4369 and first creation 1"
unfoldable pub started : Script
started = record { registry = (new_of 4369 1).registry; awaits = Operation }
