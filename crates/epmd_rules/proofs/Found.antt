-- Theorems of what is registered and asked for, in every registry that making and calls can give (specs/Claims). Assumes nothing.
use Prim.Native.Nat.{ℕ, ◌≤◌, ◌<◌}
use mathlib.Core.Path.{◌≡◌, refl, ap, ◌∙◌}
use mathlib.Core.Bool.{Bool, true, false, cond, ◌&&◌, not}
use mathlib.Core.List.{List, [], ◌∷◌, ◌++◌}
use native.Mathlib.Omega.{arith}
use borrow.Author.Tests.{lt-ltb, ltb-true}
use lib.Dec.{eqb, ltb, leb}
use Rattle.std.specs.Prelude.{Result, Ok, Err}
use lib.ListN.{length, length-append}
use lib.Seq.{get_or-set_other}
use Rattle.wire.specs.Run.{part, same_bytes}
use Rattle.wire.specs.Frame.{framed, body}
use Rattle.wire.specs.Number.{be, be_at}
use Rattle.wire.specs.Layout.{int, encode, int_at, run_at, behind}
use Rattle.wire.proofs.FrameLaws.{frame_of}
use Rattle.wire.proofs.RunLaws.{same_decides}
use Rattle.wire.proofs.LookupLaws.{first_passes, first_is}
use Rattle.names.specs.Held.{name_bytes}
use Rattle.epmd_rules.specs.State.{Registry}
use Rattle.epmd_rules.specs.declared.registration.Registration.{Registration}
use Rattle.epmd_rules.specs.declared.request.Request.{Request}
use Rattle.epmd_rules.specs.declared.request.Request.TheVariants.{Alive2, PortPlease2, Names}
use Rattle.epmd_rules.specs.declared.refusal.Refusal.{Refusal}
use Rattle.epmd_rules.specs.Messages.{alive2_req, alive2_xresp, alive2_resp, port_please2_req}
use Rattle.epmd_rules.specs.Registration.{free, is_free, extra_bytes, has_name, has_connection}
use Rattle.epmd_rules.specs.Registry.{entry_at, by_name, by_connection, filled}
use Rattle.epmd_rules.specs.Requests.{room, examine_body, examine_of}
use Rattle.epmd_rules.specs.Replies.{creation_field, short_creation, alive2_reply, port2_found, port2_missing, port2_reply}
use Rattle.epmd_rules.specs.Serve.{replied, result_of, registration_of, alive2_of, port2_of, names_of, outcome_of, request_of}
use Rattle.epmd_rules.specs.Claims.{Reachable, CloseKeeps, AskedFound, CallFinds, RepliesFit}
use Rattle.epmd_rules.proofs.RequestLaws.{framed_body, port2_asked}
use Rattle.epmd_rules.proofs.ReplyLaws.{port2_split}
use Rattle.epmd_rules.proofs.ServeLaws.{call_asked}
use Rattle.epmd_rules.proofs.PlaceLaws.{finds_name, finds_connection}
use Rattle.epmd_rules.proofs.Calls.{Afterwards, none_freed, one_freed, after_close}
use Rattle.epmd_rules.proofs.Reachable.{always_sound, names_fit}

pub close_keeps : CloseKeeps
unfolding entry_at by_connection
close_keeps r c i reach h t d = by (after_close r c) where
  by : {s : Registry} → Afterwards r c s → entry_at s i ≡ entry_at r i
  by (none_freed e) = ap (λ (x : Registry). entry_at x i) e
  by (one_freed k e) =
      let other : i ≡ by_connection r c → ⊥ = λ (q : i ≡ by_connection r c).
      d (ap (λ (j : ℕ). (entry_at r j).connection) q ∙ (finds_connection c).held (entry_at r (by_connection r c)) (first_passes (has_connection c) r.registrations free (omega (arith, (always_sound r reach).places)))) in
      ap (λ (x : Registry). entry_at x i) e ∙ get_or-set_other r.registrations (by_connection r c) i free free other

module _ (r : Registry) (i : ℕ) (reach : Reachable r) (h : i < 64) (t : is_free (entry_at r i) ≡ false) where
  abbrev name : List ℕ
  name = name_bytes (entry_at r i).name

  here : has_name name (entry_at r i) ≡ true
  here = (finds_name name).found (entry_at r i) t refl

  not_there : (j : ℕ) → j < i → has_name name (entry_at r j) ≡ false
  unfolding has_name
  not_there j m = by (is_free (entry_at r j)) refl (same_bytes (name_bytes (entry_at r j).name) name) refl where
    by : (f : Bool) → is_free (entry_at r j) ≡ f → (s : Bool) → same_bytes (name_bytes (entry_at r j).name) name ≡ s → not f && s ≡ false
    by true p s q = refl
    by false p true q = absurd ((always_sound r reach).names_apart j i (omega arith) h (λ e. omega arith) p t ((same_decides (name_bytes (entry_at r j).name) name).0 q))
    by false p false q = refl

  found : by_name r name ≡ i
  unfolding by_name entry_at
  found = first_is (has_name name) r.registrations free i (omega (arith, (always_sound r reach).places)) (λ j m. not_there j m) (λ m. here)

pub asked_found : AskedFound
unfolding port2_reply
asked_found r i reach h t = rw (found r i reach h t, lt-ltb i 64 h)

pub call_finds : CallFinds
unfolding port2_of be_at part
call_finds r c given i reach g h t =
    let n = name_bytes (entry_at r i).name in
    let s = always_sound r reach in
    let e = s.each i h in
    let f = frame_of (122 ∷ n) (omega arith) (omega (arith, e.name_held)) in
    let a : examine_of (framed (122 ∷ n)) given ≡ Ok PortPlease2 =
    framed_body (framed (122 ∷ n)) given g f.0 ∙ ap examine_body f.1 ∙ port2_asked (122 ∷ n) refl (e.named t) in
    call_asked r c (framed (122 ∷ n)) given (Ok PortPlease2) a
    ∙ ap (port2_of r) f.1
    ∙ ap (replied r) (asked_found r i reach h t)

-- ---- every reply fits

alive2_short : (highest result c : ℕ) → length (alive2_reply highest result c) ≤ room
unfolding alive2_reply
alive2_short highest result c = by (leb 6 highest) where
  by : (t : Bool)
      → length (cond t (encode alive2_xresp (int 118 ∷ int result ∷ int (creation_field result c) ∷ []))
      (encode alive2_resp (int 121 ∷ int result ∷ int (creation_field result (short_creation c)) ∷ []))) ≤ room
  by true = omega arith
  by false = omega arith

alive2_fits : (r : Registry) (c : ℕ) (b : List ℕ) → length (alive2_of r c b).bytes ≤ room
unfolding alive2_of
alive2_fits r c b = by (eqb (result_of r c (run_at alive2_req 6 b)) 0) where
  by : (t : Bool)
      → length (cond t (replied (filled r (registration_of c r.next b)) (alive2_reply (int_at alive2_req 4 b) 0 r.next))
      (replied r (alive2_reply (int_at alive2_req 4 b) (result_of r c (run_at alive2_req 6 b)) 0))).bytes ≤ room
  by true = alive2_short (int_at alive2_req 4 b) 0 r.next
  by false = alive2_short (int_at alive2_req 4 b) (result_of r c (run_at alive2_req 6 b)) 0

found_short : (p : Registration) → length (name_bytes p.name) ≤ 255 → length (extra_bytes p.extra) ≤ 128 → length (port2_found p) ≤ room
unfolding port2_found
found_short p n e =
    let name : List ℕ = name_bytes p.name in
    let extra : List ℕ = extra_bytes p.extra in
    omega (
      arith,
      n,
      e,
      ap length (port2_split p.port p.kind p.protocol p.highest p.lowest name extra),
      length-append name (be 2 (length extra)),
      length-append (name ++ be 2 (length extra)) extra,
    )

port2_fits : (r : Registry) (name : List ℕ) → Reachable r → length (port2_reply r name) ≤ room
unfolding port2_reply
port2_fits r name reach = by (ltb (by_name r name) 64) refl where
  by : (t : Bool) → ltb (by_name r name) 64 ≡ t → length (cond t (port2_found (entry_at r (by_name r name))) port2_missing) ≤ room
  by true e =
      let p = (always_sound r reach).each (by_name r name) (ltb-true (by_name r name) 64 e) in
      found_short (entry_at r (by_name r name)) p.name_held p.extra_held
  by false e = omega arith

pub replies_fit : RepliesFit
unfolding request_of port2_of names_of
replies_fit r c frame given reach = by (examine_of frame given) where
  by : (q : Result Request Refusal) → length (outcome_of r c (body frame) q).bytes ≤ room
  by (Err n) = omega arith
  by (Ok Alive2) = alive2_fits r c (body frame)
  by (Ok PortPlease2) = port2_fits r (behind port_please2_req (body frame)) reach
  by (Ok Names) = names_fit r reach
