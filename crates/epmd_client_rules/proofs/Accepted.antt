-- What a writer wrote is taken by the mapper's own examination (specs/Claims). Assumes nothing.
use Prim.Native.Nat.{ℕ, ◌≤◌}
use mathlib.Core.Path.{◌≡◌, refl, sym, ap, ap₂, subst, ◌∙◌}
use mathlib.Core.Bool.{true}
use mathlib.Core.List.{List, [], ◌∷◌}
use native.Mathlib.Omega.{arith}
use borrow.Author.Tests.{leb-true}
use lib.ListN.{length, get_or, drop}
use Rattle.std.specs.Prelude.{Ok}
use Rattle.wire.specs.Run.{part}
use Rattle.wire.specs.Frame.{framed, body}
use Rattle.wire.specs.Number.{be_at}
use Rattle.wire.specs.Layout.{Value, int, run, Fits, extent, int_of, run_of, int_at, run_at}
use Rattle.wire.proofs.FrameLaws.{frame_of, framed_length}
use Rattle.wire.proofs.LayoutLaws.{extent_back, int_back, run_back}
use Rattle.names.specs.Held.{name_of}
use Rattle.names.specs.Node.{node_name}
use Rattle.names.proofs.NodeLaws.{name_short}
use Rattle.epmd_rules.specs.declared.request.Request.TheVariants.{Alive2, Names}
use Rattle.epmd_rules.specs.Messages.{alive2_req}
use Rattle.epmd_rules.specs.Registration.{extra_of}
use Rattle.epmd_rules.specs.Requests.{room, alive2_rules, port_please2_rules, versions_ok, examine_body, examine_of}
use Rattle.epmd_rules.specs.Serve.{registration_of}
use Rattle.epmd_rules.proofs.RequestLaws.{framed_body, extra_length, alive2_asked, port2_asked, names_asked}
use Rattle.epmd_client_rules.specs.Requests.{alive2_body, alive2_frame, port_please2_frame, names_frame, alive2_writing, port_please2_writing, names_writing}
use Rattle.epmd_client_rules.specs.Claims.{Fit, Alive2Taken, PortPlease2Taken, RequestAccepted}
use Rattle.epmd_client_rules.proofs.WritingLaws.{alive2_size_lem, wrote}

-- ---- ALIVE2_REQ

module _ (port kind protocol highest lowest : ℕ) (name extra : List ℕ) where
  abbrev values : List Value
  values = int 120 ∷ int port ∷ int kind ∷ int protocol ∷ int highest ∷ int lowest ∷ run name ∷ run extra ∷ []

  abbrev bytes : List ℕ
  bytes = alive2_body port kind protocol highest lowest name extra

  module _ (f : Fit port kind protocol highest lowest) (n : node_name name ≡ true) (n255 : length name ≤ 255) (e128 : length extra ≤ 128) (v : versions_ok highest lowest ≡ true) where
    fits : Fits alive2_req values
    fits = (
      omega arith,
      (
        omega (arith, f.port_fits),
        (
          omega (arith, f.kind_fits),
          (omega (arith, f.protocol_fits), (omega (arith, f.highest_fits), (omega (arith, f.lowest_fits), (omega arith, (omega arith, tt))))),
        ),
      ),
    )

    whole : length bytes ≡ extent alive2_req bytes
    whole = sym (extent_back alive2_req values fits)

    int_at_lem : (k : ℕ) → int_at alive2_req k bytes ≡ int_of (get_or values k (int 0))
    int_at_lem = int_back alive2_req values fits

    run_at_lem : (k : ℕ) → run_at alive2_req k bytes ≡ run_of (get_or values k (int 0))
    run_at_lem = run_back alive2_req values fits

    asked : examine_body bytes ≡ Ok Alive2
    asked =
        alive2_asked bytes (int_at_lem 0) whole
        (omega (arith, extra_length bytes (int_at_lem 0) whole, ap length (run_at_lem 7)))
        (ap node_name (run_at_lem 6) ∙ n)
        (ap₂ versions_ok (int_at_lem 4) (int_at_lem 5) ∙ v)

    taken : Alive2Taken (alive2_frame port kind protocol highest lowest name extra) port kind protocol highest lowest name extra
    unfolding alive2_frame registration_of
    taken =
        let l = alive2_size_lem port kind protocol highest lowest name extra in
        let o = frame_of bytes (omega (arith, framed_length bytes, l)) (omega (arith, framed_length bytes, l)) in
        record {
          asked = λ given h. framed_body (framed bytes) given h o.0 ∙ ap examine_body o.1 ∙ asked;
          named = ap (run_at alive2_req 6) o.1 ∙ run_at_lem 6;
          speaks = ap (int_at alive2_req 4) o.1 ∙ int_at_lem 4;
          fields = λ connection creation. ap (registration_of connection creation) o.1 ∙ (λ i.
              record {
                name = name_of (run_at_lem 6 i);
                extra = extra_of (run_at_lem 7 i);
                kind = int_at_lem 2 i;
                protocol = int_at_lem 3 i;
                port = int_at_lem 1 i;
                highest = int_at_lem 4 i;
                lowest = int_at_lem 5 i;
                connection = connection;
                creation = creation;
              });
        }

  alive2_accepted : (given count : ℕ) → Fit port kind protocol highest lowest
      → (alive2_writing port kind protocol highest lowest name extra given).answer ≡ Ok count
      → Alive2Taken (alive2_writing port kind protocol highest lowest name extra given).bytes port kind protocol highest lowest name extra
  unfolding alive2_writing
  alive2_accepted given count f e =
      let w = wrote (alive2_rules highest lowest name extra) (alive2_frame port kind protocol highest lowest name extra) given count e in
      let h = w.0 in
      subst (λ (x : List ℕ). Alive2Taken x port kind protocol highest lowest name extra) (sym w.1)
      (taken f h.1.0 (name_short name h.1.0) (leb-true (length extra) 128 h.0) h.1.1.0)

-- ---- PORT_PLEASE2_REQ and NAMES_REQ

module _ (name : List ℕ) where
  question_taken : node_name name ≡ true → PortPlease2Taken (port_please2_frame name) name
  unfolding port_please2_frame be_at part body
  question_taken n =
      let o = frame_of (122 ∷ name) (omega arith) (omega (arith, name_short name n)) in
      record { asked = λ given h. framed_body (framed (122 ∷ name)) given h o.0 ∙ ap examine_body o.1 ∙ port2_asked (122 ∷ name) refl n; sought = ap (drop 1) o.1 }

  question_accepted : (given count : ℕ) → (port_please2_writing name given).answer ≡ Ok count → PortPlease2Taken (port_please2_writing name given).bytes name
  unfolding port_please2_writing
  question_accepted given count e =
      let w = wrote (port_please2_rules name) (port_please2_frame name) given count e in
      subst (λ (x : List ℕ). PortPlease2Taken x name) (sym w.1) (question_taken w.0.0)

names_taken : (given : ℕ) → room ≤ given → examine_of names_frame given ≡ Ok Names
unfolding names_frame be_at part
names_taken given h =
    let o = frame_of (110 ∷ []) (omega arith) (omega arith) in
    framed_body (framed (110 ∷ [])) given h o.0 ∙ ap examine_body o.1 ∙ names_asked (110 ∷ []) refl refl

names_accepted : (given count : ℕ) → (names_writing given).answer ≡ Ok count → (given' : ℕ) → room ≤ given' → examine_of (names_writing given).bytes given' ≡ Ok Names
unfolding names_writing
names_accepted given count e given' h = ap (λ (x : List ℕ). examine_of x given') (wrote [] names_frame given count e).1 ∙ names_taken given' h

pub request_accepted : RequestAccepted
request_accepted =
    record {
      alive2 = λ port kind protocol highest lowest name extra given count f e. alive2_accepted port kind protocol highest lowest name extra given count f e;
      port_please2 = λ name given count e. question_accepted name given count e;
      names = λ given count e given' h. names_accepted given count e given' h;
    }
