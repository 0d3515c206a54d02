-- What a frame asks for, or the number with which it is refused.
use Rattle.std.specs.Prelude.{ℕ, ◌+◌, ◌*◌, Bool, true, cond, ◌&&◌, ◌||◌, not, List, [], ◌∷◌, length, eqb, leb, Result, Ok, Err}
use Rattle.wire.specs.Frame.{is_frame, body}
use Rattle.wire.specs.Layout.{extent, behind, int_at, run_at}
use Rattle.names.specs.Node.{node_name}
use Rattle.epmd_rules.specs.declared.refusal.Refusal.{Refusal}
use Rattle.epmd_rules.specs.declared.refusal.Refusal.TheVariants.{OutputTooShort, NotAFrame, UnknownTag, BadLength, BadName, BadVersions, NotServed, ZeroCreation}
use Rattle.epmd_rules.specs.declared.request.Request.{Request}
use Rattle.epmd_rules.specs.declared.request.Request.TheVariants.{Alive2, PortPlease2, Names}
use Rattle.epmd_rules.specs.Messages.{alive2_req, port_please2_req, names_req}

-- 01, Numbers that a refused caller sees
abbrev pub refusal_number : Refusal → ℕ
refusal_number OutputTooShort = 1
refusal_number NotAFrame = 3
refusal_number UnknownTag = 4
refusal_number BadLength = 5
refusal_number BadName = 6
refusal_number BadVersions = 7
refusal_number NotServed = 8
refusal_number ZeroCreation = 17

-- "Each mapper frame call needs 17,604 output bytes (4 + 64 × 275, the longest NAMES reply)"
abbrev pub line_room : ℕ
line_room = 275

abbrev pub room : ℕ
room = 4 + 64 * line_room

-- the first byte of a body
abbrev pub tag : List ℕ → ℕ
tag b = int_at names_req 0 b

-- "tags 100, 107, 115": DUMP, KILL and STOP
unfoldable pub is_withheld : ℕ → Bool
is_withheld t = eqb t 100 || eqb t 107 || eqb t 115

abbrev pub is_served : ℕ → Bool
is_served t = eqb t 120 || eqb t 122 || eqb t 110

-- one value for each of the three served tags: ALIVE2_REQ, PORT_PLEASE2_REQ, NAMES_REQ
abbrev pub by_tag : {A : Type 0} → ℕ → A → A → A → A
by_tag t a p n = cond (eqb t 120) a (cond (eqb t 122) p n)

-- "L = 13 + Nlen + Elen"; any L holds a PORT_PLEASE2 name; "NAMES_REQ: 110, L = 1."
abbrev pub length_agrees : List ℕ → Bool
length_agrees b = by_tag (tag b) (eqb (length b) (extent alive2_req b)) true (eqb (length b) (extent names_req b))

-- "Elen at most 128 (house)"
abbrev pub extra_ok : List ℕ → Bool
extra_ok extra = leb (length extra) 128

-- "Versions must satisfy lowest ≤ highest, lowest ≤ 6, highest ≥ 5."
unfoldable pub versions_ok : ℕ → ℕ → Bool
versions_ok highest lowest = leb lowest highest && leb lowest 6 && leb 5 highest

-- a test that must hold, and the refusal if it does not
infix 20 ◌else◌
pub data Check (R : Type 0) : Type 0 where
  ◌else◌ : Bool → R → Check R

-- the first refusal whose test fails, or else what is due
abbrev pub first_refusal : {R A : Type 0} → (R → A) → List (Check R) → A → A
first_refusal refused [] due = due
first_refusal refused ((holds else n) ∷ cs) due = cond holds (first_refusal refused cs due) (refused n)

-- the rules of what a request's fields may be, in the mapper's order: the mapper reads by them, and a node writes by them
abbrev pub alive2_rules : (highest lowest : ℕ) (name extra : List ℕ) → List (Check Refusal)
alive2_rules highest lowest name extra = (extra_ok extra else BadLength) ∷ (node_name name else BadName) ∷ (versions_ok highest lowest else BadVersions) ∷ []

abbrev pub port_please2_rules : (name : List ℕ) → List (Check Refusal)
port_please2_rules name = (node_name name else BadName) ∷ []

-- by the fields of a body
abbrev pub field_checks : List ℕ → List (Check Refusal)
field_checks b =
    by_tag (tag b)
    (alive2_rules (int_at alive2_req 4 b) (int_at alive2_req 5 b) (run_at alive2_req 6 b) (run_at alive2_req 7 b))
    (port_please2_rules (behind port_please2_req b))
    []

-- "Order, mapper: 1, 3, 4 or 8, 5, 6, 7."
abbrev pub body_checks : List ℕ → List (Check Refusal)
body_checks b =
    ((is_served (tag b) || is_withheld (tag b)) else UnknownTag)
    ∷ (not (is_withheld (tag b)) else NotServed)
    ∷ (length_agrees b else BadLength)
    ∷ field_checks b

abbrev pub checks : List ℕ → ℕ → List (Check Refusal)
checks frame given = (leb room given else OutputTooShort) ∷ (is_frame frame else NotAFrame) ∷ body_checks (body frame)

-- what the body of a frame asks for, and a frame for whose reply so many bytes are given
unfoldable pub examine_body : List ℕ → Result Request Refusal
examine_body b = first_refusal Err (body_checks b) (Ok (by_tag (tag b) Alive2 PortPlease2 Names))

unfoldable pub examine_of : List ℕ → ℕ → Result Request Refusal
examine_of frame given = first_refusal Err (checks frame given) (Ok (by_tag (tag (body frame)) Alive2 PortPlease2 Names))
