-- What a body asks for, by the tests that code makes. Assumes nothing.
use Prim.Native.Nat.{ℕ, ◌+◌, ◌≤◌, ◌<◌}
use mathlib.Core.Path.{◌≡◌, refl, sym, ap, ◌∙◌}
use mathlib.Core.Bool.{Bool, true, false, ◌||◌, not}
use mathlib.Core.List.{List, [], ◌∷◌}
use native.Mathlib.Omega.{arith}
use borrow.Author.Tests.{lt-leb, le-leb, leb-true, eq-eqb, ne_eqb, eqb-true}
use lib.ListN.{length, drop, length-drop}
use lib.Dec.{eqb, leb}
use Rattle.std.specs.Prelude.{Result, Ok, Err}
use Rattle.wire.specs.Number.{be_at}
use Rattle.wire.specs.Frame.{is_frame, body}
use Rattle.wire.specs.Layout.{extent, behind, int_at, run_at}
use Rattle.wire.proofs.RunLaws.{part_length}
use Rattle.wire.proofs.FrameLaws.{frame_told}
use Rattle.names.specs.Node.{node_name}
use Rattle.names.proofs.NodeLaws.{name_some, name_short}
use Rattle.epmd_rules.specs.declared.refusal.Refusal.{Refusal}
use Rattle.epmd_rules.specs.declared.refusal.Refusal.TheVariants.{OutputTooShort, NotAFrame, UnknownTag, BadLength, BadName, BadVersions, NotServed}
use Rattle.epmd_rules.specs.declared.request.Request.{Request}
use Rattle.epmd_rules.specs.declared.request.Request.TheVariants.{Alive2, PortPlease2, Names}
use Rattle.epmd_rules.specs.Messages.{alive2_req, port_please2_req}
use Rattle.epmd_rules.specs.Serve.{Alive2Body}
use Rattle.epmd_rules.specs.Requests.{room, tag, by_tag, is_served, is_withheld, length_agrees, extra_ok, versions_ok, Check, ◌else◌, first_refusal, alive2_rules, port_please2_rules, field_checks, body_checks, checks, examine_body, examine_of}

-- ---- ALIVE2_REQ

-- the two lengths that an ALIVE2 body tells
abbrev pub nlen : List ℕ → ℕ
nlen b = be_at 2 9 b

abbrev pub elen : List ℕ → ℕ
elen b = be_at 2 (11 + nlen b) b

module _ (b : List ℕ) (tag : be_at 1 0 b ≡ 120) where
  pub alive2_length : (length b ≡ extent alive2_req b → ⊥) → examine_body b ≡ Err BadLength
  unfolding examine_body is_withheld
  alive2_length h = rw (tag, ne_eqb (length b) (extent alive2_req b) h)

  module _ (whole : length b ≡ extent alive2_req b) where
    pub extra_length : length (run_at alive2_req 7 b) ≡ elen b
    extra_length = part_length (11 + nlen b + 2) (elen b) b (omega arith)

    pub alive2_extra : 128 < elen b → examine_body b ≡ Err BadLength
    unfolding examine_body is_withheld
    alive2_extra h = rw (tag, eq-eqb (length b) (extent alive2_req b) whole, extra_length, lt-leb (elen b) 128 h)

    module _ (short : elen b ≤ 128) where
      pub alive2_name : node_name (run_at alive2_req 6 b) ≡ false → examine_body b ≡ Err BadName
      unfolding examine_body is_withheld
      alive2_name h = rw (tag, eq-eqb (length b) (extent alive2_req b) whole, extra_length, le-leb (elen b) 128 short, h)

      module _ (named : node_name (run_at alive2_req 6 b) ≡ true) where
        pub alive2_versions : versions_ok (int_at alive2_req 4 b) (int_at alive2_req 5 b) ≡ false → examine_body b ≡ Err BadVersions
        unfolding examine_body is_withheld
        alive2_versions h = rw (tag, eq-eqb (length b) (extent alive2_req b) whole, extra_length, le-leb (elen b) 128 short, named, h)

        pub alive2_asked : versions_ok (int_at alive2_req 4 b) (int_at alive2_req 5 b) ≡ true → examine_body b ≡ Ok Alive2
        unfolding examine_body is_withheld
        alive2_asked h = rw (tag, eq-eqb (length b) (extent alive2_req b) whole, extra_length, le-leb (elen b) 128 short, named, h)

-- all of them, for the function that makes the tests
pub ruleset alive2_laws = (alive2_length, alive2_extra, alive2_name, alive2_versions, alive2_asked)

-- ---- PORT_PLEASE2_REQ and NAMES_REQ

module _ (b : List ℕ) (tag : be_at 1 0 b ≡ 122) where
  pub port2_name : node_name (drop 1 b) ≡ false → examine_body b ≡ Err BadName
  unfolding examine_body is_withheld
  port2_name h = rw (tag, h)

  pub port2_asked : node_name (drop 1 b) ≡ true → examine_body b ≡ Ok PortPlease2
  unfolding examine_body is_withheld
  port2_asked h = rw (tag, h)

module _ (b : List ℕ) (tag : be_at 1 0 b ≡ 110) where
  pub names_length : (length b ≡ 1 → ⊥) → examine_body b ≡ Err BadLength
  unfolding examine_body is_withheld
  names_length h = rw (tag, ne_eqb (length b) 1 h)

  pub names_asked : length b ≡ 1 → examine_body b ≡ Ok Names
  unfolding examine_body is_withheld
  names_asked h = rw (tag, eq-eqb (length b) 1 h)

pub ruleset names_laws = (names_length, names_asked)

-- ---- other tags

module _ (b : List ℕ) (t : ℕ) (tag : t ≡ be_at 1 0 b) (a : t ≡ 120 → ⊥) (p : t ≡ 122 → ⊥) (n : t ≡ 110 → ⊥) where
  pub tag_withheld : is_withheld t ≡ true → examine_body b ≡ Err NotServed
  unfolding examine_body
  tag_withheld h = rw (← tag, ne_eqb t 120 a, ne_eqb t 122 p, ne_eqb t 110 n, h)

  pub tag_unknown : is_withheld t ≡ false → examine_body b ≡ Err UnknownTag
  unfolding examine_body
  tag_unknown h = rw (← tag, ne_eqb t 120 a, ne_eqb t 122 p, ne_eqb t 110 n, h)

pub ruleset tag_laws = (tag_withheld, tag_unknown)

-- ---- frames

module _ (frame : List ℕ) (given : ℕ) where
  pub no_room : given < room → examine_of frame given ≡ Err OutputTooShort
  unfolding examine_of
  no_room h = rw (lt-leb room given h)

  pub no_frame : room ≤ given → is_frame frame ≡ false → examine_of frame given ≡ Err NotAFrame
  unfolding examine_of
  no_frame h f = rw (le-leb room given h, f)

  pub framed_body : room ≤ given → is_frame frame ≡ true → examine_of frame given ≡ examine_body (body frame)
  unfolding examine_of examine_body
  framed_body h f = rw (le-leb room given h, f)

  -- room to spare changes nothing
  pub any_room : room ≤ given → examine_of frame given ≡ examine_of frame room
  unfolding examine_of
  any_room h = rw (le-leb room given h)

pub ruleset frame_laws = (no_room, no_frame, framed_body, frame_told)

-- ---- what is known of a request that is not refused

abbrev is_asked : Result Request Refusal → Bool
is_asked (Err n) = false
is_asked (Ok q) = true

abbrev outcome : List (Check Refusal) → Request → Result Request Refusal
outcome cs q = first_refusal Err cs (Ok q)

passes : (h : Bool) (n : Refusal) (cs : List (Check Refusal)) (q : Request) → is_asked (outcome ((h else n) ∷ cs) q) ≡ true → (h ≡ true) × (is_asked (outcome cs q) ≡ true)
passes true n cs q e = (refl, e)
passes false n cs q e = cc

all_pass : (cs : List (Check Refusal)) (q : Request) → is_asked (outcome cs q) ≡ true → outcome cs q ≡ Ok q
all_pass [] q e = refl
all_pass ((h else n) ∷ cs) q e = let p = passes h n cs q e in rw p.0 (all_pass cs q p.1)

-- all tests held, and the request is the one of its tag
pub record Passed (frame : List ℕ) (given : ℕ) : Type 0 where
  pub room_given : room ≤ given
  pub framed : is_frame frame ≡ true
  pub length_agrees_lem : length_agrees (body frame) ≡ true
  pub fields : is_asked (outcome (field_checks (body frame)) (by_tag (tag (body frame)) Alive2 PortPlease2 Names)) ≡ true
  pub kind : examine_of frame given ≡ Ok (by_tag (tag (body frame)) Alive2 PortPlease2 Names)

passed : (frame : List ℕ) (given : ℕ) → is_asked (examine_of frame given) ≡ true → Passed frame given
unfolding examine_of
passed frame given e =
    let b = body frame in
    let q : Request = by_tag (tag b) Alive2 PortPlease2 Names in
    let c5 : List (Check Refusal) = (length_agrees b else BadLength) ∷ field_checks b in
    let c8 : List (Check Refusal) = (not (is_withheld (tag b)) else NotServed) ∷ c5 in
    let p1 = passes (leb room given) OutputTooShort ((is_frame frame else NotAFrame) ∷ body_checks b) q e in
    let p3 = passes (is_frame frame) NotAFrame (body_checks b) q p1.1 in
    let p4 = passes (is_served (tag b) || is_withheld (tag b)) UnknownTag c8 q p3.1 in
    let p8 = passes (not (is_withheld (tag b))) NotServed c5 q p4.1 in
    let p5 = passes (length_agrees b) BadLength (field_checks b) q p8.1 in
    record {
      room_given = leb-true room given p1.0;
      framed = p3.0;
      length_agrees_lem = p5.0;
      fields = p5.1;
      kind = all_pass (checks frame given) q e;
    }

-- the request's kind tells the tag
tag_kind : (t : ℕ) (q : Request) → by_tag t Alive2 PortPlease2 Names ≡ q → (q ≡ Alive2 → t ≡ 120) × (q ≡ PortPlease2 → t ≡ 122)
tag_kind t q e = by (eqb t 120) refl (eqb t 122) refl where
  by : (a : Bool) → eqb t 120 ≡ a → (p : Bool) → eqb t 122 ≡ p → (q ≡ Alive2 → t ≡ 120) × (q ≡ PortPlease2 → t ≡ 122)
  by true f p g =
      let k : Alive2 ≡ q = sym (rw f) ∙ e in
      (λ h. eqb-true t 120 f, λ h. cc)
  by false f true g =
      let k : PortPlease2 ≡ q = sym (rw (f, g)) ∙ e in
      (λ h. cc, λ h. eqb-true t 122 g)
  by false f false g =
      let k : Names ≡ q = sym (rw (f, g)) ∙ e in
      (λ h. cc, λ h. cc)

ok_same : {q p : Request} → ◌≡◌ {A = Result Request Refusal} (Ok q) (Ok p) → q ≡ p
ok_same e = cc

-- what is known at each request
module _ (frame : List ℕ) (given : ℕ) (q : Request) (e : examine_of frame given ≡ Ok q) where
  pub request_passed : Passed frame given
  request_passed = passed frame given (ap is_asked e)

  pub request_body : (2 ≤ length frame) × (1 ≤ length (body frame))
  unfolding body
  request_body =
      let f = frame_told frame request_passed.framed in
      (omega (arith, f.0), omega (arith, f.0, f.1, length-drop 2 frame))

-- the rules of an ALIVE2 body's fields
module _ (frame : List ℕ) (given : ℕ) (e : examine_of frame given ≡ Ok Alive2) where
  b : List ℕ
  b = body frame

  p : Passed frame given
  p = request_passed frame given Alive2 e

  alive2_tag : tag (body frame) ≡ 120
  unfolding b p
  alive2_tag = (tag_kind (tag b) Alive2 (ok_same (sym p.kind ∙ e))).0 refl

  alive2_rules_lem : is_asked (outcome (alive2_rules (int_at alive2_req 4 (body frame)) (int_at alive2_req 5 (body frame)) (run_at alive2_req 6 (body frame)) (run_at alive2_req 7 (body frame))) Alive2) ≡ true
  unfolding b p
  alive2_rules_lem =
      let rules : List (Check Refusal) = alive2_rules (int_at alive2_req 4 b) (int_at alive2_req 5 b) (run_at alive2_req 6 b) (run_at alive2_req 7 b) in
      ap (λ (k : ℕ). is_asked (outcome (by_tag k rules (port_please2_rules (behind port_please2_req b)) []) (by_tag k Alive2 PortPlease2 Names))) (sym alive2_tag) ∙ p.fields

pub alive2_named : (frame : List ℕ) (given : ℕ) → examine_of frame given ≡ Ok Alive2 → node_name (run_at alive2_req 6 (body frame)) ≡ true
alive2_named frame given e =
    let b = body frame in
    let vs : List (Check Refusal) = (versions_ok (int_at alive2_req 4 b) (int_at alive2_req 5 b) else BadVersions) ∷ [] in
    (passes (node_name (run_at alive2_req 6 b)) BadName vs Alive2 (passes (extra_ok (run_at alive2_req 7 b)) BadLength ((node_name (run_at alive2_req 6 b) else BadName) ∷ vs) Alive2 (alive2_rules_lem frame given e)).1).0

pub alive2_name_some : (frame : List ℕ) (given : ℕ) → examine_of frame given ≡ Ok Alive2 → 1 ≤ length (run_at alive2_req 6 (body frame))
alive2_name_some frame given e = name_some (run_at alive2_req 6 (body frame)) (alive2_named frame given e)

pub alive2_body_lem : (frame : List ℕ) (given : ℕ) → examine_of frame given ≡ Ok Alive2 → Alive2Body (body frame)
alive2_body_lem frame given e =
    let b = body frame in
    let l : eqb (length b) (extent alive2_req b) ≡ true = ap (λ (k : ℕ). by_tag k (eqb (length b) (extent alive2_req b)) true (eqb (length b) 1)) (sym (alive2_tag frame given e)) ∙ (request_passed frame given Alive2 e).length_agrees_lem in
    let x : extra_ok (run_at alive2_req 7 b) ≡ true = (passes (extra_ok (run_at alive2_req 7 b)) BadLength ((node_name (run_at alive2_req 6 b) else BadName) ∷ (versions_ok (int_at alive2_req 4 b) (int_at alive2_req 5 b) else BadVersions) ∷ []) Alive2 (alive2_rules_lem frame given e)).0 in
    record {
      whole = eqb-true (length b) (extent alive2_req b) l;
      name = name_short (run_at alive2_req 6 b) (alive2_named frame given e);
      extra = leb-true (length (run_at alive2_req 7 b)) 128 x;
    }
