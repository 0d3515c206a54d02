-- What follows a name stands at a place exactly if the scan finds it there. Assumes nothing.
use Prim.Native.Nat.{ℕ, zero, suc, ◌+◌, ◌*◌, ◌-◌, ◌≤◌, ◌<◌}
use mathlib.Core.Path.{◌≡◌, refl, sym, ap, ◌∙◌}
use mathlib.Core.Bool.{Bool, true, false, cond}
use mathlib.Core.List.{List, [], ◌∷◌, ◌++◌, append_assoc}
use native.Mathlib.Numerals.{add-one}
use native.Mathlib.Omega.{arith}
use lib.ListN.{length, drop, get_or, length-append, length-drop}
use lib.Seq.{drop-drop, drop-cons, get_or-drop}
use lib.Dec.{ltb, leb, eqb}
use Rattle.std.specs.Prelude.{Option, Some, None}
use borrow.Author.Tests.{ltb-false, leb-false, eqb-true, eqb-false, eq-eqb, lt-ltb, le-ltb, lt-leb}
use Rattle.wire.specs.Decimal.{decimal, value_from, Text}
use Rattle.wire.proofs.DecimalLaws.{decimal_text, decimal_only}
use Rattle.epmd_rules.specs.Replies.{port_word}
use Rattle.epmd_rules.proofs.ReplyLaws.{port_short}
use Rattle.epmd_client_names.specs.Text.{tail_text, has_at, digit_at, found, closed_at, by_digit, port_from, port_at, tail_at}
use Rattle.epmd_client_names.proofs.TextLaws.{has_true, has_of, port_of, next_of, not_found, from_stop, from_zero, from_big, from_go, port_none, port_some}

-- ---- digits

abbrev pub AllDigits : List ℕ → Type 0
AllDigits [] = Unit
AllDigits (d ∷ ds) = (48 ≤ d) × (d ≤ 57) × AllDigits ds

pub all_digits : (ds : List ℕ) → ((i : ℕ) → i < length ds → (48 ≤ get_or ds i 0) × (get_or ds i 0 ≤ 57)) → AllDigits ds
all_digits [] f = tt
all_digits (d ∷ ds) f = ((f 0 (omega arith)).0, (f 0 (omega arith)).1, all_digits ds (λ i h. f (suc i) (omega arith)))

each_digit : (ds : List ℕ) → AllDigits ds → (i : ℕ) → i < length ds → (48 ≤ get_or ds i 0) × (get_or ds i 0 ≤ 57)
each_digit [] a i h = absurd (omega arith)
each_digit (d ∷ ds) a zero h = (a.0, a.1)
each_digit (d ∷ ds) a (suc i) h = each_digit ds a.2 i (omega arith)

value_ge : (ds : List ℕ) (v : ℕ) → v ≤ value_from v ds
value_ge [] v = omega arith
value_ge (d ∷ ds) v = omega (arith, value_ge ds (v * 10 + (d - 48)))

-- ---- one byte

module _ (s : List ℕ) (i d : ℕ) (r : List ℕ) (h : drop i s ≡ d ∷ r) where
  byte_in : i < length s
  byte_in = omega (arith, ap length h, length-drop i s)

  byte_is : get_or s i 0 ≡ d
  byte_is = ap (λ (k : ℕ). get_or s k 0) (omega arith) ∙ sym (get_or-drop i s 0 0) ∙ ap (λ (l : List ℕ). get_or l 0 0) h

  byte_rest : drop (i + 1) s ≡ r
  byte_rest = sym (drop-drop 1 i s) ∙ ap (drop 1) h

  digit_of : 48 ≤ d → d ≤ 57 → digit_at s i ≡ Some (d - 48)
  unfolding digit_at
  digit_of a b = rw (lt-leb (length s) i byte_in, byte_is, le-ltb d 48 a, le-ltb 57 d b)

  digit_no : d ≡ 10 → digit_at s i ≡ None
  unfolding digit_at
  digit_no e = rw (lt-leb (length s) i byte_in, byte_is, lt-ltb d 48 (omega arith))

  closed_of : (v : ℕ) → d ≡ 10 → v ≤ 65535 → closed_at s i v ≡ found v (i + 1)
  unfolding closed_at
  closed_of v e l = rw (le-ltb 65535 v l, lt-leb (length s) i byte_in, byte_is, eq-eqb d 10 e)

no_digit : (d : ℕ) → ◌≡◌ {A = Option ℕ} None (Some d) → ⊥
no_digit d e = let z : ◌≡◌ {A = ℕ} 0 1 = cc in omega arith

pub digit_sound : (s : List ℕ) (i d : ℕ) → digit_at s i ≡ Some d → (drop i s ≡ (48 + d) ∷ drop (i + 1) s) × (d ≤ 9)
unfolding digit_at
digit_sound s i d h = by (leb (length s) i) (ltb (get_or s i 0) 48) (ltb 57 (get_or s i 0)) refl refl refl h where
  by : (t u w : Bool) → leb (length s) i ≡ t → ltb (get_or s i 0) 48 ≡ u → ltb 57 (get_or s i 0) ≡ w
      → cond t None (cond u None (cond w None (Some (get_or s i 0 - 48)))) ≡ Some d → (drop i s ≡ (48 + d) ∷ drop (i + 1) s) × (d ≤ 9)
  by true u w e f g l = absurd (no_digit d l)
  by false true w e f g l = absurd (no_digit d l)
  by false false true e f g l = absurd (no_digit d l)
  by false false false e f g l =
      let n : get_or s i 0 - 48 ≡ d = cc in
      let k : 48 + d ≡ get_or s i 0 = omega (arith, ltb-false (get_or s i 0) 48 f) in (
        drop-cons s i 0 (leb-false (length s) i e) ∙ ap (λ (x : ℕ). get_or s i 0 ∷ drop x s) (sym (add-one i)) ∙ ap (λ (x : ℕ). x ∷ drop (i + 1) s) (sym k),
        omega (arith, ltb-false 57 (get_or s i 0) g),
      )

-- ---- the newline

record Closed (s : List ℕ) (i v port next : ℕ) : Type 0 where
  same : port ≡ v
  behind : next ≡ i + 1
  small : v ≤ 65535
  here : drop i s ≡ 10 ∷ drop next s
  inside : next ≤ length s

closed_sound : (s : List ℕ) (i v port next : ℕ) → closed_at s i v ≡ found port next → Closed s i v port next
unfolding closed_at
closed_sound s i v port next h = by (ltb 65535 v) (leb (length s) i) (eqb (get_or s i 0) 10) refl refl refl h where
  by : (t u w : Bool) → ltb 65535 v ≡ t → leb (length s) i ≡ u → eqb (get_or s i 0) 10 ≡ w
      → cond t None (cond u None (cond w (found v (i + 1)) None)) ≡ found port next → Closed s i v port next
  by true u w e f g l = absurd (not_found (record { port = port; next = next }) l)
  by false true w e f g l = absurd (not_found (record { port = port; next = next }) l)
  by false false false e f g l = absurd (not_found (record { port = port; next = next }) l)
  by false false true e f g l =
      let p : port ≡ v = sym (ap port_of l) in
      let n : next ≡ i + 1 = sym (ap next_of l) in
      let b : get_or s i 0 ≡ 10 = eqb-true (get_or s i 0) 10 g in
      let m : suc i ≡ next = omega (arith, n) in
      record {
        same = p;
        behind = n;
        small = ltb-false 65535 v e;
        here = drop-cons s i 0 (leb-false (length s) i f) ∙ ap (λ (x : ℕ). x ∷ drop (suc i) s) b ∙ ap (λ (x : ℕ). 10 ∷ drop x s) m;
        inside = omega (arith, leb-false (length s) i f);
      }

-- ---- digits behind those that say v

from_complete : (ds : List ℕ) (k : ℕ) (s : List ℕ) (i v : ℕ) (r : List ℕ) → drop i s ≡ ds ++ (10 ∷ r) → AllDigits ds → length ds ≤ k
    → (v ≡ 0 → length ds ≡ 0) → value_from v ds ≤ 65535 → port_from k s i v ≡ found (value_from v ds) (i + length ds + 1)
from_complete [] k s i v r h a l z m =
    let e : i + 1 ≡ i + 0 + 1 = omega arith in
    from_stop s i v k (digit_no s i 10 r h refl) ∙ closed_of s i 10 r h v refl m ∙ ap (λ (x : ℕ). found v x) e
from_complete (d ∷ ds) k s i v r h a l z m =
    let g : digit_at s i ≡ Some (d - 48) = digit_of s i d (ds ++ (10 ∷ r)) h a.0 a.1 in
    let ge : v * 10 + (d - 48) ≤ 65535 = omega (arith, value_ge ds (v * 10 + (d - 48))) in
    let e : i + 1 + length ds + 1 ≡ i + suc (length ds) + 1 = omega arith in
    from_go s i v (d - 48) g (λ q. omega (arith, z q)) k (omega arith) (omega arith)
    ∙ from_complete ds (k - 1) s (i + 1) (v * 10 + (d - 48)) r (byte_rest s i d (ds ++ (10 ∷ r)) h) a.2 (omega arith) (λ q. absurd (omega (arith, z (omega arith)))) m
    ∙ ap (λ (x : ℕ). found (value_from (v * 10 + (d - 48)) ds) x) e

record From (k : ℕ) (s : List ℕ) (i v port next : ℕ) : Type 0 where
  ds : List ℕ
  here : drop i s ≡ ds ++ (10 ∷ drop next s)
  all : AllDigits ds
  few : length ds ≤ k
  says : port ≡ value_from v ds
  alone : v ≡ 0 → length ds ≡ 0
  small : port ≤ 65535
  behind : next ≡ i + length ds + 1
  inside : next ≤ length s

from_closed : (k : ℕ) (s : List ℕ) (i v port next : ℕ) → closed_at s i v ≡ found port next → From k s i v port next
from_closed k s i v port next h =
    let q : Closed s i v port next = closed_sound s i v port next h in
    record {
      ds = [];
      here = q.here;
      all = tt;
      few = omega arith;
      says = q.same;
      alone = λ e. refl;
      small = omega (arith, q.same, q.small);
      behind = omega (arith, q.behind);
      inside = q.inside;
    }

from_sound : (k : ℕ) (s : List ℕ) (i v port next : ℕ) → port_from k s i v ≡ found port next → From k s i v port next
unfolding port_from
from_sound zero s i v port next h = from_closed zero s i v port next h
from_sound (suc k) s i v port next h = by (digit_at s i) refl h (λ d e. from_sound k s (i + 1) (v * 10 + d) port next e) where
  more : (d : ℕ) → digit_at s i ≡ Some d → (u w : Bool) → eqb v 0 ≡ u → ltb 6553 v ≡ w
      → cond u None (cond w None (port_from k s (i + 1) (v * 10 + d))) ≡ found port next
      → (port_from k s (i + 1) (v * 10 + d) ≡ found port next → From k s (i + 1) (v * 10 + d) port next) → From (suc k) s i v port next
  more d e true w f g l rec = absurd (not_found (record { port = port; next = next }) l)
  more d e false true f g l rec = absurd (not_found (record { port = port; next = next }) l)
  more d e false false f g l rec =
      let o = digit_sound s i d e in
      let q : From k s (i + 1) (v * 10 + d) port next = rec l in
      let n : d ≡ 48 + d - 48 = omega arith in
      record {
        ds = (48 + d) ∷ q.ds;
        here = o.0 ∙ ap (λ (x : List ℕ). (48 + d) ∷ x) q.here;
        all = (omega arith, omega (arith, o.1), q.all);
        few = omega (arith, q.few);
        says = q.says ∙ ap (λ (x : ℕ). value_from (v * 10 + x) q.ds) n;
        alone = λ z. absurd (eqb-false v 0 f z);
        small = q.small;
        behind = omega (arith, q.behind);
        inside = q.inside;
      }

  by : (o : Option ℕ) → digit_at s i ≡ o
      → by_digit o (closed_at s i v) (λ d. cond (eqb v 0) None (cond (ltb 6553 v) None (port_from k s (i + 1) (v * 10 + d)))) ≡ found port next
      → ((d : ℕ) → port_from k s (i + 1) (v * 10 + d) ≡ found port next → From k s (i + 1) (v * 10 + d) port next) → From (suc k) s i v port next
  by None e l rec = from_closed (suc k) s i v port next l
  by (Some d) e l rec = more d e (eqb v 0) (ltb 6553 v) refl refl l (rec d)

-- ---- the port as decimal text

-- a digit zero before others would lead
alone : (d : ℕ) (ds : List ℕ) → (2 ≤ suc (length ds) → 48 < d) → d - 48 ≡ 0 → length ds ≡ 0
alone d [] f e = refl
alone d (x ∷ ds) f e = absurd (omega (arith, f (omega arith)))

text_read : (ds : List ℕ) (port : ℕ) → Text 10 port ds → length ds ≤ 5 → port ≤ 65535 → (s : List ℕ) (i : ℕ) (r : List ℕ) → drop i s ≡ ds ++ (10 ∷ r)
    → port_at s i ≡ found port (i + length ds + 1)
text_read [] port t few l s i r h = absurd (omega (arith, t.some))
text_read (d ∷ ds) port t few l s i r h =
    let a : AllDigits (d ∷ ds) = all_digits (d ∷ ds) t.digit in
    let v : 0 * 10 + (d - 48) ≡ d - 48 = omega arith in
    let says : value_from (d - 48) ds ≡ port = ap (λ (k : ℕ). value_from k ds) (sym v) ∙ t.says in
    let g : digit_at s i ≡ Some (d - 48) = digit_of s i d (ds ++ (10 ∷ r)) h a.0 a.1 in
    let n : i + 1 + length ds + 1 ≡ i + suc (length ds) + 1 = omega arith in
    port_some s i (d - 48) g
    ∙ from_complete ds 4 s (i + 1) (d - 48) r (byte_rest s i d (ds ++ (10 ∷ r)) h) a.2 (omega arith) (alone d ds t.lead) (omega (arith, says))
    ∙ ap (λ (k : ℕ). found k (i + 1 + length ds + 1)) says
    ∙ ap (λ (k : ℕ). found port k) n

-- a digit, and digits behind it, are the text of the number that they say
read_text : (v port : ℕ) (ds : List ℕ) → v ≤ 9 → AllDigits ds → length ds ≤ 4 → (v ≡ 0 → length ds ≡ 0) → port ≡ value_from v ds → Text 10 port ((48 + v) ∷ ds)
read_text v port ds l a f z e =
    let k : 0 * 10 + (48 + v - 48) ≡ v = omega arith in
    record {
      says = ap (λ (x : ℕ). value_from x ds) k ∙ sym e;
      some = omega arith;
      few = omega arith;
      digit = each_digit ((48 + v) ∷ ds) (omega arith, omega arith, a);
      lead = λ h. above v z h;
    } where
      above : (v : ℕ) → (v ≡ 0 → length ds ≡ 0) → 2 ≤ suc (length ds) → 48 < 48 + v
      above zero z h = absurd (omega (arith, z refl))
      above (suc v) z h = omega arith

record PortHere (s : List ℕ) (i port next : ℕ) : Type 0 where
  here : drop i s ≡ decimal port ++ (10 ∷ drop next s)
  behind : next ≡ i + length (decimal port) + 1
  inside : next ≤ length s
  small : port ≤ 65535

port_sound : (s : List ℕ) (i port next : ℕ) → port_at s i ≡ found port next → PortHere s i port next
unfolding port_at
port_sound s i port next h = by (digit_at s i) refl h where
  by : (o : Option ℕ) → digit_at s i ≡ o → by_digit o None (λ d. port_from 4 s (i + 1) d) ≡ found port next → PortHere s i port next
  by None e l = absurd (not_found (record { port = port; next = next }) l)
  by (Some v) e l =
      let o = digit_sound s i v e in
      let nine : v ≤ 9 = o.1 in
      let f : From 4 s (i + 1) v port next = from_sound 4 s (i + 1) v port next l in
      let g : (48 + v) ∷ f.ds ≡ decimal port = decimal_only port ((48 + v) ∷ f.ds) (read_text v port f.ds nine f.all f.few f.alone f.says) in
      record {
        here = o.0 ∙ ap (λ (x : List ℕ). (48 + v) ∷ x) f.here ∙ ap (λ (x : List ℕ). x ++ (10 ∷ drop next s)) g;
        behind = omega (arith, f.behind, ap length g);
        inside = f.inside;
        small = f.small;
      }

pub ruleset port_laws = (port_none, port_some, from_stop, from_zero, from_big, from_go, digit_sound)

-- ---- what follows a name

pub record TailHere (s : List ℕ) (q port next : ℕ) : Type 0 where
  pub here : drop q s ≡ tail_text port ++ drop next s
  pub behind : next ≡ q + length (tail_text port)
  pub inside : next ≤ length s
  pub small : port ≤ 65535

pub tail_length : (port : ℕ) → length (tail_text port) ≡ 10 + length (decimal port)
unfolding tail_text
tail_length port = omega (arith, length-append (decimal port) (10 ∷ []))

pub tail_complete : (s : List ℕ) (q port : ℕ) (r : List ℕ) → drop q s ≡ tail_text port ++ r → port ≤ 65535 → tail_at s q ≡ found port (q + length (tail_text port))
unfolding tail_at tail_text
tail_complete s q port r h l =
    let has : has_at s q port_word ≡ true = has_of s q port_word ((decimal port ++ (10 ∷ [])) ++ r) h in
    let e : drop (q + 9) s ≡ decimal port ++ (10 ∷ r) = sym (drop-drop 9 q s) ∙ ap (drop 9) h ∙ append_assoc (decimal port) (10 ∷ []) r in
    let n : q + 9 + length (decimal port) + 1 ≡ q + length (tail_text port) = omega (arith, tail_length port) in
    ap (λ (t : Bool). cond t (port_at s (q + 9)) None) has
    ∙ text_read (decimal port) port (decimal_text port (omega arith)) (port_short port (omega arith)) l s (q + 9) r e
    ∙ ap (λ (x : ℕ). found port x) n

pub tail_sound : (s : List ℕ) (q port next : ℕ) → tail_at s q ≡ found port next → TailHere s q port next
unfolding tail_at tail_text
tail_sound s q port next h = by (has_at s q port_word) refl h where
  by : (t : Bool) → has_at s q port_word ≡ t → cond t (port_at s (q + 9)) None ≡ found port next → TailHere s q port next
  by false e l = absurd (not_found (record { port = port; next = next }) l)
  by true e l =
      let p : PortHere s (q + 9) port next = port_sound s (q + 9) port next l in
      record {
        here = has_true s q port_word e ∙ ap (λ (x : List ℕ). port_word ++ x) (p.here ∙ sym (append_assoc (decimal port) (10 ∷ []) (drop next s)));
        behind = omega (arith, p.behind, tail_length port);
        inside = p.inside;
        small = p.small;
      }
