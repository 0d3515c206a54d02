-- Reading what a call of the mapper wrote, in every registry that calls can give (specs/Claims). Assumes nothing.
use Prim.Native.Nat.{ℕ, suc, ◌≤◌, ◌<◌}
use mathlib.Core.Path.{◌≡◌, refl, sym, ap, ap₂, subst, ◌∙◌}
use mathlib.Core.Logic.{◌⊎◌, inl, inr}
use mathlib.Core.Bool.{Bool, true, false, cond}
use mathlib.Core.List.{List, [], ◌∷◌, ◌++◌}
use native.Mathlib.Omega.{arith}
use borrow.Author.Tests.{leb-true, ne_eqb, lt-ltb, ltb-true, ltb-false, eqb-true, eqb-false}
use lib.ListN.{length, get_or}
use Rattle.std.specs.Prelude.{Result, Ok, Err}
use lib.Dec.{eqb, ltb}
use Rattle.wire.specs.Frame.{body}
use Rattle.wire.specs.Number.{be}
use Rattle.wire.specs.Table.{table_bytes, Each}
use Rattle.wire.specs.Layout.{behind, int_at, run_at}
use Rattle.names.specs.Held.{name_bytes}
use Rattle.names.proofs.HeldLaws.{name_back}
use Rattle.names.proofs.NodeLaws.{name_short}
use Rattle.epmd_rules.specs.Requests.{alive2_rules}
use Rattle.epmd_rules.specs.declared.registration.Registration.{Registration}
use Rattle.epmd_rules.specs.declared.request.Request.TheVariants.{Alive2, PortPlease2, Names}
use Rattle.epmd_rules.specs.State.{Registry}
use Rattle.epmd_rules.specs.Messages.{alive2_req, port_please2_req}
use Rattle.epmd_rules.specs.Registration.{free, is_free}
use Rattle.epmd_rules.specs.Registry.{by_name, entry_at}
use Rattle.epmd_rules.specs.Replies.{port2_found, port2_missing, port2_reply, name_line, line_of, name_lines, names_reply}
use Rattle.epmd_rules.specs.Serve.{Outcome, result_of, alive2_of, port2_of, names_of, request_of}
use Rattle.epmd_rules.specs.Claims.{Reachable, NumbersHeld, PlaceSound}
use Rattle.epmd_rules.proofs.ServeLaws.{call_asked, alive2_fails, alive2_fills, result_fits}
use Rattle.epmd_rules.proofs.Found.{asked_found}
use Rattle.epmd_rules.proofs.Reachable.{always_sound, registered_found, extra_back}
use Rattle.epmd_client_rules.specs.declared.unreadable.Unreadable.{Unreadable}
use Rattle.epmd_client_rules.specs.declared.unreadable.Unreadable.TheVariants.{Ambiguous}
use Rattle.epmd_client_rules.specs.declared.reply.Port2Reply.TheVariants as port2
use Rattle.epmd_client_rules.specs.Replies.{alive2_read}
use Rattle.epmd_client_rules.specs.declared.reply.NamesReply.{NamesReply}
use Rattle.epmd_client_rules.specs.Readings.{lines_text, Allowed, Reading, Reads, listed, Tells, none, several, only}
use Rattle.epmd_client_rules.specs.Claims.{registration_with, alive2_told, port2_told, Port2Back, lines_in, reading_of, ReplyRead, AskedAndRead, RegisteredAndRead}
use Rattle.epmd_client_rules.specs.Requests.{alive2_frame, alive2_writing, port_please2_writing}
use Rattle.epmd_client_rules.proofs.WritingLaws.{wrote}
use Rattle.epmd_client_rules.proofs.Accepted.{request_accepted}
use Rattle.epmd_client_rules.proofs.Back.{alive2_back, missing_read, registered_back}

-- ---- NAMES: a registry is a reading of its own reply

lines_written : (ps : List Registration) → lines_text (lines_in ps) ≡ name_lines ps
unfolding name_lines line_of table_bytes
lines_written [] = refl
lines_written (p ∷ ps) = by (is_free p) (lines_written ps) where
  by : (t : Bool) → lines_text (lines_in ps) ≡ name_lines ps
      → lines_text (cond t (lines_in ps) (record { name = name_bytes p.name; port = p.port } ∷ lines_in ps)) ≡ cond t [] (name_line p) ++ name_lines ps
  by true e = e
  by false e = ap (λ (l : List ℕ). name_line p ++ l) e

lines_few : (ps : List Registration) → length (lines_in ps) ≤ length ps
lines_few [] = omega arith
lines_few (p ∷ ps) = by (is_free p) (lines_few ps) where
  by : (t : Bool) → length (lines_in ps) ≤ length ps
      → length (cond t (lines_in ps) (record { name = name_bytes p.name; port = p.port } ∷ lines_in ps)) ≤ suc (length ps)
  by true h = omega arith
  by false h = omega arith

lines_allowed : (ps : List Registration) → ((i : ℕ) → i < length ps → PlaceSound (get_or ps i free)) → Each Allowed (lines_in ps)
unfolding Each
lines_allowed [] s = tt
lines_allowed (p ∷ ps) s = by (is_free p) refl (lines_allowed ps (λ i h. s (suc i) (omega arith))) where
  by : (t : Bool) → is_free p ≡ t → Each Allowed (lines_in ps) → Each Allowed (cond t (lines_in ps) (record { name = name_bytes p.name; port = p.port } ∷ lines_in ps))
  by true e a = a
  by false e a = let q = s 0 (omega arith) in (record { name = q.named e; port = q.numbers_held.port }, a)

pub registry_reads : (r : Registry) → Reachable r → Reads (names_reply r) (reading_of r)
unfolding names_reply entry_at
registry_reads r reach =
    let s = always_sound r reach in
    record {
      text = ap (λ (l : List ℕ). be 4 r.port ++ l) (lines_written r.registrations);
      own = s.own_port_held;
      lines = lines_allowed r.registrations (λ i h. s.each i (omega (arith, s.places)));
      few = omega (arith, lines_few r.registrations, s.places);
    }

names_back : (b : List ℕ) (m : Reading) (told : Result NamesReply Unreadable) → Reads b m → Tells b told → (told ≡ listed m) ⊎ (told ≡ Err Ambiguous)
names_back b m told w (none u) = absurd (u m w)
names_back b m told w (several k n p q d) = inr refl
names_back b m told w (only k p o) = inl (ap listed (sym (o m w)))

-- ---- over the calls

told_apart : (highest result c d : ℕ) → (result ≡ 0 → ⊥) → alive2_told highest result c ≡ alive2_told highest result d
told_apart highest result c d h = rw (ne_eqb result 0 h)

alive2_told_lem : (r : Registry) (c : ℕ) (b : List ℕ) → r.next ≤ 4294967295
    → alive2_read (alive2_of r c b).bytes ≡ Ok (alive2_told (int_at alive2_req 4 b) (result_of r c (run_at alive2_req 6 b)) r.next)
alive2_told_lem r c b n = by (eqb (result_of r c (run_at alive2_req 6 b)) 0) refl where
  by : (t : Bool) → eqb (result_of r c (run_at alive2_req 6 b)) 0 ≡ t
      → alive2_read (alive2_of r c b).bytes ≡ Ok (alive2_told (int_at alive2_req 4 b) (result_of r c (run_at alive2_req 6 b)) r.next)
  by true z =
      let k = result_of r c (run_at alive2_req 6 b) in
      let q = eqb-true k 0 z in
      ap (λ (o : Outcome). alive2_read o.bytes) (alive2_fills r c b k refl q)
      ∙ alive2_back (int_at alive2_req 4 b) 0 r.next (omega arith) (omega arith)
      ∙ ap (λ (x : ℕ). Ok (alive2_told (int_at alive2_req 4 b) x r.next)) (sym q)
  by false z =
      let k = result_of r c (run_at alive2_req 6 b) in
      let q = eqb-false k 0 z in
      ap (λ (o : Outcome). alive2_read o.bytes) (alive2_fails r c b k refl q)
      ∙ alive2_back (int_at alive2_req 4 b) k 0 (result_fits r c (run_at alive2_req 6 b)) (omega arith)
      ∙ ap Ok (told_apart (int_at alive2_req 4 b) k 0 r.next q)

port2_told_lem : (r : Registry) (name : List ℕ) → Reachable r → Port2Back (port2_reply r name) (by_name r name) (entry_at r (by_name r name))
unfolding port2_reply
port2_told_lem r name reach = by (ltb (by_name r name) 64) refl where
  by : (t : Bool) → ltb (by_name r name) 64 ≡ t
      → Port2Back (cond t (port2_found (entry_at r (by_name r name))) port2_missing) (by_name r name) (entry_at r (by_name r name))
  by true e =
      let l = ltb-true (by_name r name) 64 e in
      let s = (always_sound r reach).each (by_name r name) l in
      let q = registered_back (entry_at r (by_name r name)) s.numbers_held s.name_held s.extra_held in
      record { told = q.told ∙ ap (λ (t : Bool). Ok (cond t (port2.Found (port2_told (entry_at r (by_name r name)))) (port2.Failed 1))) (sym e); name = λ h. q.name (omega arith); extra = λ h. q.extra (omega arith) }
  by false e =
      let g = ltb-false (by_name r name) 64 e in
      record { told = missing_read ∙ ap (λ (t : Bool). Ok (cond t (port2.Found (port2_told (entry_at r (by_name r name)))) (port2.Failed 1))) (sym e); name = λ h. absurd (omega arith); extra = λ h. absurd (omega arith) }

pub reply_read : ReplyRead
unfolding port2_of names_of
reply_read =
    record {
      alive2 = λ r c frame given reach e.
          ap (λ (o : Outcome). alive2_read o.bytes) (call_asked r c frame given (Ok Alive2) e) ∙ alive2_told_lem r c (body frame) (always_sound r reach).next_held;
      port2 = λ r c frame given reach e.
          let name = behind port_please2_req (body frame) in
          subst (λ (o : Outcome). Port2Back o.bytes (by_name r name) (entry_at r (by_name r name))) (sym (call_asked r c frame given (Ok PortPlease2) e)) (port2_told_lem r name reach);
      names = λ r c frame given told reach e t.
          names_back (names_reply r) (reading_of r) told (registry_reads r reach) (subst (λ (o : Outcome). Tells o.bytes told) (call_asked r c frame given (Ok Names) e) t);
    }

pub asked_and_read : AskedAndRead
unfolding port2_of
asked_and_read r c i given given' count reach h t room' e =
    let name = name_bytes (entry_at r i).name in
    let frame = (port_please2_writing name given).bytes in
    let q = request_accepted.port_please2 name given count e in
    let s = (always_sound r reach).each i h in
    let back = registered_back (entry_at r i) s.numbers_held s.name_held s.extra_held in
    let is : (request_of r c frame given').bytes ≡ port2_found (entry_at r i) =
    ap (λ (o : Outcome). o.bytes) (call_asked r c frame given' (Ok PortPlease2) (q.asked given' room'))
    ∙ ap (port2_reply r) q.sought
    ∙ asked_found r i reach h t in
    subst (λ (x : List ℕ). Port2Back x i (entry_at r i)) (sym is)
    (record { told = back.told ∙ ap (λ (u : Bool). Ok (cond u (port2.Found (port2_told (entry_at r i))) (port2.Failed 1))) (sym (lt-ltb i 64 h)); name = λ l. back.name (omega arith); extra = λ l. back.extra (omega arith) })

-- the fields that a writer wrote can be held
written_held : (port kind protocol highest lowest : ℕ) (name extra : List ℕ) (given count : ℕ)
    → (alive2_writing port kind protocol highest lowest name extra given).answer ≡ Ok count → (length name ≤ 255) × (length extra ≤ 128)
unfolding alive2_writing
written_held port kind protocol highest lowest name extra given count e =
    let h = (wrote (alive2_rules highest lowest name extra) (alive2_frame port kind protocol highest lowest name extra) given count e).0 in
    (name_short name h.1.0, leb-true (length extra) 128 h.0)

pub registered_and_read : RegisteredAndRead
unfolding port2_of
registered_and_read r c asker port kind protocol highest lowest name extra given given' count count' reply reply' reach fit e e' z room₁ room₂ =
    let frame = (alive2_writing port kind protocol highest lowest name extra given).bytes in
    let question = (port_please2_writing name given').bytes in
    let p : Registration = registration_with port kind protocol highest lowest name extra c r.next in
    let t = request_accepted.alive2 port kind protocol highest lowest name extra given count fit e in
    let q = request_accepted.port_please2 name given' count' e' in
    let h = written_held port kind protocol highest lowest name extra given count e in
    let numbers : NumbersHeld p = record { port = fit.port_fits; kind = fit.kind_fits; protocol = fit.protocol_fits; highest = fit.highest_fits; lowest = fit.lowest_fits } in
    let z' : result_of r c (run_at alive2_req 6 (body frame)) ≡ 0 = ap (result_of r c) t.named ∙ z in
    let r' : Registry = (request_of r c frame reply).registry in
    let is : (request_of r' asker question reply').bytes ≡ port2_found p =
    ap (λ (o : Outcome). o.bytes) (call_asked r' asker question reply' (Ok PortPlease2) (q.asked reply' room₂))
    ∙ ap (port2_reply r') (q.sought ∙ sym t.named)
    ∙ registered_found r c frame reply reach (t.asked reply room₁) z'
    ∙ ap port2_found (t.fields c r.next) in
    record {
      told_creation =
          reply_read.alive2 r c frame reply reach (t.asked reply room₁)
          ∙ ap₂ (λ (h k : ℕ). Ok (alive2_told h k r.next)) t.speaks z';
      found_back = subst (λ (x : List ℕ). Port2Back x 0 p) (sym is) (registered_back p numbers (omega (arith, ap length (name_back name), h.0)) (omega (arith, ap length (extra_back extra), h.1)));
    }
