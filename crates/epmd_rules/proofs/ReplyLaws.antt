-- Laws of the replies as code writes them. Assumes nothing.
use Prim.Native.Nat.{ℕ, suc, ◌+◌, ◌≤◌, ◌<◌}
use mathlib.Core.Path.{◌≡◌, refl, sym, ap, ap₂, ◌∙◌}
use mathlib.Core.Bool.{Bool, true, false, cond}
use mathlib.Core.List.{List, [], ◌∷◌, ◌++◌, append_assoc, append-nil}
use native.Mathlib.Numerals.{add-one}
use native.Mathlib.Omega.{arith}
use lib.ListN.{length, get_or, take, length-append}
use lib.Seq.{take-suc, take_all}
use Rattle.wire.specs.Number.{be}
use Rattle.wire.specs.Output.{overwrite, written}
use Rattle.wire.specs.Decimal.{decimal}
use Rattle.wire.specs.Layout.{int, encode}
use Rattle.wire.proofs.OutputLaws.{overwrite_none, overwrite_front, overwrite_next, overwrite_join}
use Rattle.wire.proofs.DecimalLaws.{decimal_within}
use Rattle.names.specs.Held.{name_bytes}
use Rattle.epmd_rules.specs.declared.registration.Registration.{Registration}
use Rattle.epmd_rules.specs.State.{Registry}
use Rattle.epmd_rules.specs.Messages.{port2_head}
use Rattle.epmd_rules.specs.Registration.{is_free}
use Rattle.epmd_rules.specs.Requests.{line_room}
use Rattle.epmd_rules.specs.Replies.{port2_with, name_word, port_word, line_with, name_line, line_of, name_lines, names_reply}

-- ---- PORT2_RESP: the head, the name, Elen, the extra bytes

module _ (port kind protocol highest lowest : ℕ) (name extra : List ℕ) where
  abbrev pub head_with : List ℕ
  head_with = encode port2_head (int 119 ∷ int 0 ∷ int port ∷ int kind ∷ int protocol ∷ int highest ∷ int lowest ∷ int (length name) ∷ [])

  pub port2_split : ((head_with ++ name) ++ be 2 (length extra)) ++ extra ≡ port2_with port kind protocol highest lowest name extra
  port2_split =
      append_assoc (head_with ++ name) (be 2 (length extra)) extra
      ∙ append_assoc head_with name (be 2 (length extra) ++ extra)
      ∙ ap (λ (l : List ℕ). head_with ++ (name ++ (be 2 (length extra) ++ l))) (sym (append-nil extra))

-- ---- NAMES

-- a line in the order of its writes
pub line_split : (name : List ℕ) (port : ℕ) → (((name_word ++ name) ++ port_word) ++ decimal port) ++ (10 ∷ []) ≡ line_with name port
unfolding line_with
line_split name port = simp append_assoc

pub port_short : (n : ℕ) → n < 65536 → length (decimal n) ≤ 5
port_short n h = decimal_within 5 n (omega arith) (omega arith) (omega arith)

pub line_length : (name : List ℕ) (port : ℕ) → length (line_with name port) ≡ 15 + length name + length (decimal port)
unfolding line_with
line_length name port =
    let d : List ℕ = decimal port in
    omega (arith, length-append name (port_word ++ (d ++ (10 ∷ []))), length-append d (10 ∷ []))

lines_snoc : (ps : List Registration) (p : Registration) → name_lines (ps ++ (p ∷ [])) ≡ name_lines ps ++ line_of p
unfolding name_lines
lines_snoc [] p = append-nil (line_of p)
lines_snoc (q ∷ ps) p = ap (λ (l : List ℕ). line_of q ++ l) (lines_snoc ps p) ∙ sym (append_assoc (line_of q) (name_lines ps) (line_of p))

-- a place more
pub lines_next : (ps : List Registration) (i : ℕ) (d : Registration) → i < length ps
    → name_lines (take (suc i) ps) ≡ name_lines (take i ps) ++ line_of (get_or ps i d)
lines_next ps i d h = ap name_lines (take-suc ps i d h) ∙ lines_snoc (take i ps) (get_or ps i d)

-- what the NAMES loop has written behind the port before place i: the lines of the places passed; at is where it goes on
pub record Sofar (ps : List Registration) (i : ℕ) (before after : List ℕ) (at : ℕ) : Type 0 where
  pub is : after ≡ overwrite before 4 (name_lines (take i ps))
  pub there : at ≡ 4 + length (name_lines (take i ps))

pub none_sofar : (ps : List Registration) (before : List ℕ) → Sofar ps 0 before before 4
unfolding name_lines
none_sofar ps before = record { is = sym (overwrite_none before 4); there = refl }

pub next_sofar : (ps : List Registration) (i : ℕ) (before after : List ℕ) (at : ℕ) (d : Registration) → i < length ps → 4 ≤ length before
    → Sofar ps i before after at
    → Sofar ps (i + 1) before (overwrite after at (line_of (get_or ps i d))) (at + length (line_of (get_or ps i d)))
next_sofar ps i before after at d h room s =
    let l : List ℕ = name_lines (take i ps) in
    let p : List ℕ = line_of (get_or ps i d) in
    let e : name_lines (take (i + 1) ps) ≡ l ++ p = ap (λ (k : ℕ). name_lines (take k ps)) (add-one i) ∙ lines_next ps i d h in
    record {
      is =
          ap (λ (x : List ℕ). overwrite x at p) s.is
          ∙ overwrite_join before 4 l p at room (sym s.there)
          ∙ ap (overwrite before 4) (sym e);
      there = omega (arith, s.there, ap length e, length-append l p);
    }

pub all_sofar : (r : Registry) (out before after : List ℕ) (at : ℕ) → length r.registrations ≡ 64 → before ≡ overwrite out 0 (be 4 r.port)
    → Sofar r.registrations 64 before after at → (at ≡ length (names_reply r)) × (after ≡ written (names_reply r) out)
unfolding names_reply
all_sofar r out before after at l b s =
    let e : name_lines (take 64 r.registrations) ≡ name_lines r.registrations = ap name_lines (take_all 64 r.registrations (omega arith)) in (
      omega (arith, s.there, ap length e),
      s.is
          ∙ ap₂ (λ (x y : List ℕ). overwrite x 4 y) (b ∙ overwrite_front out (be 4 r.port)) e
          ∙ overwrite_next out 4 (be 4 r.port) (name_lines r.registrations) refl,
    )

-- no line is longer than the room that is reckoned for one
pub line_within : (p : Registration) → length (name_bytes p.name) ≤ 255 → p.port < 65536 → length (line_of p) ≤ line_room
unfolding line_of
line_within p n h = by (is_free p) where
  by : (t : Bool) → length (cond t [] (name_line p)) ≤ line_room
  by true = omega arith
  by false = omega (arith, line_length (name_bytes p.name) p.port, port_short p.port h)
