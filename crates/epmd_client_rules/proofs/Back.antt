-- Replies read as they were written: 118, 121 and 119 by their fields. Assumes nothing.
use Prim.Native.Nat.{ℕ, ◌+◌, ◌≤◌, ◌<◌}
use mathlib.Core.Path.{◌≡◌, refl, sym, ap, ap₂, ◌∙◌}
use mathlib.Core.Bool.{Bool, true, false, cond}
use mathlib.Core.List.{List, [], ◌∷◌}
use native.Mathlib.Omega.{arith}
use borrow.Author.Tests.{eq-eqb, ne_eqb, eqb-true, eqb-false}
use lib.ListN.{length}
use Rattle.std.specs.Prelude.{Ok, Err}
use lib.Dec.{eqb, leb}
use Rattle.wire.specs.Run.{part}
use Rattle.wire.specs.Number.{be_at}
use Rattle.wire.specs.Layout.{Value, int, run, Fits, encode, extent}
use Rattle.wire.proofs.LayoutLaws.{extent_back, int_back, run_back}
use Rattle.names.specs.Held.{name_bytes}
use Rattle.epmd_rules.specs.declared.registration.Registration.{Registration}
use Rattle.epmd_rules.specs.Messages.{alive2_xresp, alive2_resp, port2_resp}
use Rattle.epmd_rules.specs.Registration.{extra_bytes}
use Rattle.epmd_rules.specs.Requests.{◌else◌, first_refusal, tag}
use Rattle.epmd_rules.specs.Replies.{short_creation, creation_field, alive2_reply, port2_with, port2_found, port2_missing}
use Rattle.epmd_rules.specs.Claims.{NumbersHeld}
use Rattle.epmd_client_rules.specs.declared.unreadable.Unreadable.TheVariants.{WrongTag, WrongLength}
use Rattle.epmd_client_rules.specs.declared.reply.Port2.{Port2}
use Rattle.epmd_client_rules.specs.declared.reply.Port2Reply.TheVariants as port2
use Rattle.epmd_client_rules.specs.Replies.{result_in, name_in, extra_in, fields_in, port2_long, alive2_read, port2_read}
use Rattle.epmd_client_rules.specs.Claims.{told_of, alive2_told, port2_told, Port2Back, PartsLie}
use Rattle.epmd_client_rules.proofs.ReplyLaws.{found_told, name_length, extra_length}

-- ---- 118 and 121

module _ (result c : ℕ) (r8 : result < 256) where
  long_read : c < 4294967296 → alive2_read (encode alive2_xresp (int 118 ∷ int result ∷ int c ∷ [])) ≡ Ok (told_of 118 result c)
  unfolding alive2_read
  long_read h =
      let vs : List Value = int 118 ∷ int result ∷ int c ∷ [] in
      let f : Fits alive2_xresp vs = (omega arith, (omega arith, (omega arith, tt))) in
      rw (int_back alive2_xresp vs f 0, int_back alive2_xresp vs f 1, int_back alive2_xresp vs f 2)

  short_read : c < 65536 → alive2_read (encode alive2_resp (int 121 ∷ int result ∷ int c ∷ [])) ≡ Ok (told_of 121 result c)
  unfolding alive2_read
  short_read h =
      let vs : List Value = int 121 ∷ int result ∷ int c ∷ [] in
      let f : Fits alive2_resp vs = (omega arith, (omega arith, (omega arith, tt))) in
      rw (int_back alive2_resp vs f 0, int_back alive2_resp vs f 1, int_back alive2_resp vs f 2)

-- beside a Result above 0 no creation is told
told_failed : (tag result c d : ℕ) → (result ≡ 0 → ⊥) → told_of tag result c ≡ told_of tag result d
told_failed tag result c d h = rw (ne_eqb result 0 h)

field_kept : (result c : ℕ) → result ≡ 0 → creation_field result c ≡ c
field_kept result c e = rw (eq-eqb result 0 e)

-- the creation field, whatever Result is
told_field : (tag result c : ℕ) → told_of tag result (creation_field result c) ≡ told_of tag result c
told_field tag result c = by (eqb result 0) refl where
  by : (t : Bool) → eqb result 0 ≡ t → told_of tag result (creation_field result c) ≡ told_of tag result c
  by true e = ap (told_of tag result) (field_kept result c (eqb-true result 0 e))
  by false e = told_failed tag result (creation_field result c) c (eqb-false result 0 e)

field_fits : (result c n : ℕ) → c < n → creation_field result c < n
field_fits result c n h = by (eqb result 0) where
  by : (t : Bool) → cond t c 0 < n
  by true = h
  by false = omega arith

pub alive2_back : (highest result c : ℕ) → result < 256 → c < 4294967296 → alive2_read (alive2_reply highest result c) ≡ Ok (alive2_told highest result c)
unfolding alive2_reply
alive2_back highest result c r8 h = by (leb 6 highest) where
  by : (t : Bool)
      → alive2_read (cond t (encode alive2_xresp (int 118 ∷ int result ∷ int (creation_field result c) ∷ [])) (encode alive2_resp (int 121 ∷ int result ∷ int (creation_field result (short_creation c)) ∷ [])))
      ≡ Ok (cond t (told_of 118 result c) (told_of 121 result (short_creation c)))
  by true = long_read result (creation_field result c) r8 (field_fits result c 4294967296 h) ∙ ap Ok (told_field 118 result c)
  by false = short_read result (creation_field result (short_creation c)) r8 (field_fits result (short_creation c) 65536 (omega arith)) ∙ ap Ok (told_field 121 result (short_creation c))

-- ---- 119

found_whole : (b : List ℕ) (p : Port2) → port2_read b ≡ Ok (port2.Found p) → (length b ≡ extent port2_resp b) × (p ≡ fields_in b)
unfolding port2_read
found_whole b p e = by (leb 1 (length b)) (eqb (tag b) 119) (eqb (result_in b) 0) refl (port2_long b) refl e where
  by : (some tagged zero : Bool) → eqb (result_in b) 0 ≡ zero → (long : Bool) → port2_long b ≡ long
      → first_refusal Err ((some else WrongLength) ∷ (tagged else WrongTag) ∷ (long else WrongLength) ∷ []) (Ok (cond zero (port2.Found (fields_in b)) (port2.Failed (result_in b)))) ≡ Ok (port2.Found p)
      → (length b ≡ extent port2_resp b) × (p ≡ fields_in b)
  by false tagged zero f long g h = let z : ◌≡◌ {A = ℕ} 0 1 = cc in absurd (omega arith)
  by true false zero f long g h = let z : ◌≡◌ {A = ℕ} 0 1 = cc in absurd (omega arith)
  by true true zero f false g h = let z : ◌≡◌ {A = ℕ} 0 1 = cc in absurd (omega arith)
  by true true false f true g h = let z : ◌≡◌ {A = ℕ} 0 1 = cc in absurd (omega arith)
  by true true true f true g h =
      let q : p ≡ fields_in b = cc in
      (eqb-true (length b) (extent port2_resp b) (ap (λ (t : Bool). eqb (length b) (cond t (extent port2_resp b) 2)) (sym f) ∙ g), q)

pub parts_lie : PartsLie
parts_lie b p e =
    let w = found_whole b p e in
    let name = name_length b w.0 in
    let extra = extra_length b w.0 in (
      ap (λ (q : Port2). part q.name.at q.name.len b) w.1 ∙ ap (λ (n : ℕ). part 12 n b) name,
      ap (λ (q : Port2). part q.extra.at q.extra.len b) w.1 ∙ ap₂ (λ (n m : ℕ). part (12 + n + 2) m b) name extra,
    )

pub missing_read : port2_read port2_missing ≡ Ok (port2.Failed 1)
unfolding port2_read be_at part
missing_read = refl

module _ (port kind protocol highest lowest : ℕ) (name extra : List ℕ) where
  abbrev values : List Value
  values = int 119 ∷ int 0 ∷ int port ∷ int kind ∷ int protocol ∷ int highest ∷ int lowest ∷ run name ∷ run extra ∷ []

  abbrev bytes : List ℕ
  bytes = port2_with port kind protocol highest lowest name extra

  module _ (f : Fits port2_resp values) where
    pub name_back : name_in bytes ≡ name
    name_back = run_back port2_resp values f 7

    pub extra_back : extra_in bytes ≡ extra
    extra_back = run_back port2_resp values f 8

    pub found_read : port2_read bytes
        ≡ Ok (port2.Found (record {
          port = port;
          kind = kind;
          protocol = protocol;
          highest = highest;
          lowest = lowest;
          name = record { at = 12; len = length name };
          extra = record { at = 14 + length name; len = length extra };
        }))
    unfolding port2_read
    found_read =
        let is = int_back port2_resp values f in
        let n = name_back in
        let x = extra_back in
        let at : 12 + length name + 2 ≡ 14 + length name = omega arith in
        found_told bytes (omega (arith, extent_back port2_resp values f)) (is 0) (is 1) (sym (extent_back port2_resp values f))
        ∙ ap (λ (p : Port2). Ok (port2.Found p)) (λ i.
        record {
          port = is 2 i;
          kind = is 3 i;
          protocol = is 4 i;
          highest = is 5 i;
          lowest = is 6 i;
          name = record { at = 12; len = length (n i) };
          extra = record { at = (ap (λ (l : List ℕ). 12 + length l + 2) n ∙ at) i; len = length (x i) };
        })

-- the registration that is found, and its reply
pub registered_back : (p : Registration) → NumbersHeld p → length (name_bytes p.name) ≤ 255 → length (extra_bytes p.extra) ≤ 128 → Port2Back (port2_found p) 0 p
unfolding port2_found
registered_back p h n e =
    let name : List ℕ = name_bytes p.name in
    let extra : List ℕ = extra_bytes p.extra in
    let f : Fits port2_resp (values p.port p.kind p.protocol p.highest p.lowest name extra) = (
      omega arith,
      (
        omega arith,
        (
          omega (arith, h.port),
          (omega (arith, h.kind), (omega (arith, h.protocol), (omega (arith, h.highest), (omega (arith, h.lowest), (omega arith, (omega arith, tt)))))),
        ),
      ),
    )
    in
    let read = found_read p.port p.kind p.protocol p.highest p.lowest name extra f in
    let lie = parts_lie (port2_found p) (port2_told p) read in
    record {
      told = read;
      name = λ l. lie.0 ∙ name_back p.port p.kind p.protocol p.highest p.lowest name extra f;
      extra = λ l. lie.1 ∙ extra_back p.port p.kind p.protocol p.highest p.lowest name extra f;
    }
