-- Laws of the writers: a decision tells the answer, and with it what is written. Assumes nothing.
use Prim.Native.Nat.{ℕ, ◌+◌, ◌≤◌}
use mathlib.Core.Path.{◌≡◌, refl, sym, ap, ◌∙◌}
use mathlib.Core.Bool.{true, false}
use mathlib.Core.List.{List, [], ◌∷◌, ◌++◌, append_assoc, append-nil}
use native.Mathlib.Omega.{arith}
use borrow.Author.Tests.{leb-true}
use lib.ListN.{length, take, length-append}
use lib.Dec.{leb}
use Rattle.std.specs.Prelude.{Result, Ok, Err, IsErrAnd}
use Rattle.std.proofs.lemmas.Result.{err_from_is_err_and}
use Rattle.wire.specs.Number.{be}
use Rattle.wire.specs.Frame.{framed}
use Rattle.wire.specs.Layout.{counted, int, run, encode_field, encode}
use Rattle.wire.specs.Output.{written}
use Rattle.wire.proofs.FrameLaws.{framed_split}
use Rattle.wire.proofs.OutputLaws.{written_none}
use Rattle.epmd_rules.specs.declared.refusal.Refusal.{Refusal}
use Rattle.epmd_rules.specs.declared.refusal.Refusal.TheVariants.{OutputTooShort}
use Rattle.epmd_rules.specs.Messages.{alive2_req, port_please2_req, names_req}
use Rattle.epmd_rules.specs.Requests.{Check, ◌else◌, first_refusal, alive2_rules, port_please2_rules}
use Rattle.names.proofs.NodeLaws.{name_short}
use Rattle.epmd_client_rules.specs.Requests.{Writing, Writes, refused, writing, alive2_frame, port_please2_frame, names_frame}
use Rattle.epmd_client_rules.specs.Decision.{decided}

-- ---- decisions

-- what is done by an answer: the frame is written, or nothing
abbrev doing : List ℕ → Result ℕ Refusal → Writing
doing frame (Ok n) = record { answer = Ok n; bytes = frame }
doing frame (Err why) = record { answer = Err why; bytes = [] }

by_answer : (cs : List (Check Refusal)) (n : ℕ) (frame : List ℕ)
    → first_refusal refused cs (record { answer = Ok n; bytes = frame }) ≡ doing frame (first_refusal Err cs (Ok n))
by_answer [] n frame = refl
by_answer ((true else why) ∷ cs) n frame = by_answer cs n frame
by_answer ((false else why) ∷ cs) n frame = refl

own : (frame : List ℕ) (a : Result ℕ Refusal) → a ≡ (doing frame a).answer
own frame (Ok n) = refl
own frame (Err why) = refl

-- a decision by the frame's size is the writer's answer
module _ (rules : List (Check Refusal)) (frame : List ℕ) (size given : ℕ) (e : length frame ≡ size) where
  writes : (a : Result ℕ Refusal) → a ≡ decided rules size given → (out out' : List ℕ) → out' ≡ written (doing frame a).bytes out → Writes (writing rules frame given) a out out'
  writes a d out out' o =
      let w : writing rules frame given ≡ doing frame a =
      by_answer (rules ++ ((leb (length frame) given else OutputTooShort) ∷ [])) (length frame) frame
      ∙ ap (λ (k : ℕ). doing frame (decided rules k given)) e
      ∙ ap (doing frame) (sym d) in
      rw w (record { answer = own frame a; output = o })

  -- as after `?`, where the decision's refusal is returned
  pub writes_none : {a : Result ℕ Refusal} → a ≡ decided rules size given → {why : Refusal} → a ≡ Err why → (r : Result ℕ Refusal) → IsErrAnd r (λ y. y ≡ why)
      → (out : List ℕ) → Writes (writing rules frame given) r out out
  writes_none d {why} w r h out =
      let p = err_from_is_err_and r h in rw (p.1, p.2) (writes (Err why) (sym w ∙ d) out out (sym (written_none out)))

  pub writes_frame : {a : Result ℕ Refusal} → a ≡ decided rules size given → {n : ℕ} → a ≡ Ok n → (out out' : List ℕ) → out' ≡ written frame out
      → Writes (writing rules frame given) (Ok n) out out'
  writes_frame d {n} w out out' o = writes (Ok n) (sym w ∙ d) out out' o

-- where a frame is written, every test held
abbrev AllHold : List (Check Refusal) → Type 0
AllHold [] = Unit
AllHold ((holds else why) ∷ cs) = (holds ≡ true) × AllHold cs

all_hold : (cs : List (Check Refusal)) (n m : ℕ) → first_refusal Err cs (Ok n) ≡ Ok m → AllHold cs
all_hold [] n m e = tt
all_hold ((true else why) ∷ cs) n m e = (refl, all_hold cs n m e)
all_hold ((false else why) ∷ cs) n m e = let z : ◌≡◌ {A = ℕ} 0 1 = cc in absurd (omega arith)

held : (rules : List (Check Refusal)) (size given m : ℕ) → decided rules size given ≡ Ok m → AllHold (rules ++ ((leb size given else OutputTooShort) ∷ []))
held rules size given m e = all_hold (rules ++ ((leb size given else OutputTooShort) ∷ [])) size m e

-- by the writer's own answer: what it wrote is its frame, and every rule held
pub wrote : (rules : List (Check Refusal)) (frame : List ℕ) (given m : ℕ) → (writing rules frame given).answer ≡ Ok m
    → AllHold (rules ++ ((leb (length frame) given else OutputTooShort) ∷ [])) × ((writing rules frame given).bytes ≡ frame)
wrote rules frame given m e =
    let w = by_answer (rules ++ ((leb (length frame) given else OutputTooShort) ∷ [])) (length frame) frame in
    let d : decided rules (length frame) given ≡ Ok m = own frame (decided rules (length frame) given) ∙ ap (λ (x : Writing). x.answer) (sym w) ∙ e in
    (held rules (length frame) given m d, ap (λ (x : Writing). x.bytes) w ∙ ap (λ (a : Result ℕ Refusal). (doing frame a).bytes) d)

-- ---- ALIVE2_REQ: the head, the name behind Nlen, the extra bytes behind Elen

module _ (highest lowest : ℕ) (name extra : List ℕ) where
  abbrev pub alive2_size : ℕ
  alive2_size = 15 + length name + length extra

  pub alive2_held : (given m : ℕ) → decided (alive2_rules highest lowest name extra) alive2_size given ≡ Ok m
      → (alive2_size ≤ given) × (length name ≤ 255) × (length extra ≤ 128)
  alive2_held given m e =
      let h = held (alive2_rules highest lowest name extra) alive2_size given m e in
      (leb-true alive2_size given h.1.1.1.0, name_short name h.1.0, leb-true (length extra) 128 h.0)

module _ (port kind protocol highest lowest : ℕ) (name extra : List ℕ) where
  abbrev front : List ℕ
  front = encode (take 6 alive2_req) (int 120 ∷ int port ∷ int kind ∷ int protocol ∷ int highest ∷ int lowest ∷ [])

  abbrev runs : List ℕ
  runs = encode_field (counted 2) (run name) ++ encode_field (counted 2) (run extra)

  abbrev pub alive2_head : List ℕ
  alive2_head = be 2 (13 + length name + length extra) ++ front

  runs_length : length runs ≡ 4 + length name + length extra
  runs_length = omega (arith, length-append name (encode_field (counted 2) (run extra)))

  pub alive2_split : (alive2_head ++ encode_field (counted 2) (run name)) ++ encode_field (counted 2) (run extra) ≡ alive2_frame port kind protocol highest lowest name extra
  unfolding alive2_frame
  alive2_split =
      append_assoc alive2_head (encode_field (counted 2) (run name)) (encode_field (counted 2) (run extra))
      ∙ framed_split front runs (13 + length name + length extra) (omega (arith, runs_length))
      ∙ ap (λ (l : List ℕ). framed (front ++ (encode_field (counted 2) (run name) ++ l))) (sym (append-nil (encode_field (counted 2) (run extra))))

  pub alive2_size_lem : length (alive2_frame port kind protocol highest lowest name extra) ≡ 15 + length name + length extra
  alive2_size_lem =
      ap length (sym alive2_split) ∙ ap length (append_assoc alive2_head (encode_field (counted 2) (run name)) (encode_field (counted 2) (run extra))) ∙ omega (arith, runs_length)

-- ---- PORT_PLEASE2_REQ and NAMES_REQ: a length and a tag, and the name

pub port_please2_held : (name : List ℕ) (given m : ℕ) → decided (port_please2_rules name) (3 + length name) given ≡ Ok m
    → (3 + length name ≤ given) × (length name ≤ 255)
port_please2_held name given m e =
    let h = held (port_please2_rules name) (3 + length name) given m e in
    (leb-true (3 + length name) given h.1.0, name_short name h.0)

pub port_please2_split : (name : List ℕ) → (be 2 (1 + length name) ++ encode port_please2_req (int 122 ∷ [])) ++ name ≡ port_please2_frame name
unfolding port_please2_frame
port_please2_split name = framed_split (encode port_please2_req (int 122 ∷ [])) name (1 + length name) refl

pub port_please2_size : (name : List ℕ) → length (port_please2_frame name) ≡ 3 + length name
port_please2_size name = ap length (sym (port_please2_split name)) ∙ omega arith

pub names_held : (given m : ℕ) → decided [] 3 given ≡ Ok m → 3 ≤ given
names_held given m e = leb-true 3 given (held [] 3 given m e).0

pub names_head : be 2 1 ++ encode names_req (int 110 ∷ []) ≡ names_frame
unfolding names_frame framed
names_head = refl

pub names_size : length names_frame ≡ 3
names_size = ap length (sym names_head)
