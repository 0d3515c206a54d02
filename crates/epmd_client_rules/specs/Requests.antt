-- 02, P1. "Add the writing of 01's three requests from fields": what each writer tells, and the frame that it writes. Layouts and rules are the
-- mapper's own.
use Rattle.std.specs.Prelude.{ℕ, ◌≡◌, Result, Ok, Err, List, [], ◌∷◌, ◌++◌, length, leb}
use Rattle.wire.specs.Frame.{framed}
use Rattle.wire.specs.Layout.{int, run, encode}
use Rattle.wire.specs.Output.{written}
use Rattle.epmd_rules.specs.declared.refusal.Refusal.{Refusal}
use Rattle.epmd_rules.specs.declared.refusal.Refusal.TheVariants.{OutputTooShort}
use Rattle.epmd_rules.specs.Messages.{alive2_req, port_please2_req, names_req}
use Rattle.epmd_rules.specs.Requests.{Check, ◌else◌, first_refusal, alive2_rules, port_please2_rules}

-- ---- frames

-- "ALIVE2_REQ: 120, port 2, type 1, protocol 1, highest 2, lowest 2, Nlen 2, name, Elen 2, extra."
abbrev pub alive2_body : (port kind protocol highest lowest : ℕ) (name extra : List ℕ) → List ℕ
alive2_body port kind protocol highest lowest name extra =
    encode alive2_req (int 120 ∷ int port ∷ int kind ∷ int protocol ∷ int highest ∷ int lowest ∷ run name ∷ run extra ∷ [])

unfoldable pub alive2_frame : (port kind protocol highest lowest : ℕ) (name extra : List ℕ) → List ℕ
alive2_frame port kind protocol highest lowest name extra = framed (alive2_body port kind protocol highest lowest name extra)

-- "PORT_PLEASE2_REQ: 122, name of L − 1 bytes."
unfoldable pub port_please2_frame : (name : List ℕ) → List ℕ
port_please2_frame name = framed (encode port_please2_req (int 122 ∷ []) ++ name)

-- "NAMES_REQ: 110, L = 1."
unfoldable pub names_frame : List ℕ
names_frame = framed (encode names_req (int 110 ∷ []))

-- ---- writers

pub record Writing : Type 0 where
  pub answer : Result ℕ Refusal
  pub bytes : List ℕ

abbrev pub refused : Refusal → Writing
refused n = record { answer = Err n; bytes = [] }

-- "In writing, a field that 01 forbids is refused with 01's number, in the mapper's order, then output shorter than the frame with 1."
abbrev pub writing : List (Check Refusal) → (frame : List ℕ) (given : ℕ) → Writing
writing rules frame given =
    first_refusal refused (rules ++ ((leb (length frame) given else OutputTooShort) ∷ [])) (record { answer = Ok (length frame); bytes = frame })

unfoldable pub alive2_writing : (port kind protocol highest lowest : ℕ) (name extra : List ℕ) (given : ℕ) → Writing
alive2_writing port kind protocol highest lowest name extra given =
    writing (alive2_rules highest lowest name extra) (alive2_frame port kind protocol highest lowest name extra) given

unfoldable pub port_please2_writing : (name : List ℕ) (given : ℕ) → Writing
port_please2_writing name given = writing (port_please2_rules name) (port_please2_frame name) given

unfoldable pub names_writing : (given : ℕ) → Writing
names_writing given = writing [] names_frame given

-- ---- what a call does: it tells its answer, and writes its bytes at the front of the output
pub record Writes (w : Writing) (told : Result ℕ Refusal) (out out' : List ℕ) : Type 0 where
  pub answer : told ≡ w.answer
  pub output : out' ≡ written w.bytes out
