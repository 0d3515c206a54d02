-- Laws of the flag test (specs/FlagClaims). Assumes nothing.
use Rattle.std.specs.Prelude.{Ok, Err}
use Rattle.std.proofs.Math.Bool.{or-true}
use Prim.Native.Nat.{ℕ, zero, suc, ◌+◌, ◌<◌, ◌≤◌}
use mathlib.Core.Path.{◌≡◌, refl, sym, ◌∙◌, ap, ap₂}
use mathlib.Core.Bool.{Bool, true, false, true≢false, cond, ◌&&◌, ◌||◌, not}
use mathlib.Core.List.{List, [], ◌∷◌}
use native.Mathlib.Omega.{arith}
use lib.ListN.{length}
use lib.Dec.{eqb, ltb}
use borrow.Author.Tests.{eqb-true, eqb-false, eq-eqb, ne_eqb, ltb-true, ltb-false, lt-ltb, le-ltb}
use Rattle.handshake_rules.specs.declared.flags.FlagFlaw.TheVariants.{Missing, NameMe}
use Rattle.handshake_rules.specs.Flags.{bit, all_set, required, name_me, good_flags, missing, test_of, flag_test, FlagTest}
use Rattle.handshake_rules.specs.Forms.{flag_tests}
use Rattle.handshake_rules.specs.FlagClaims.{among, clear_below, Lacks, Says, FlagsTested, OneAnswer, is_good, GoodExactly}
use Rattle.handshake_rules.specs.Claims.{NoneHolds}

-- ---- good

good_from : (is : List ℕ) (f : ℕ) (asked : Bool) → (all_set is f && not asked) ≡ is_good (test_of (missing is f) asked)
good_from [] f true = refl
good_from [] f false = refl
good_from (i ∷ is) f asked = by (bit i f) asked (good_from is f asked)
  where
    by : (b a : Bool) → (all_set is f && not a) ≡ is_good (test_of (missing is f) a)
        → ((b && all_set is f) && not a) ≡ is_good (test_of (cond b (missing is f) (i ∷ missing is f)) a)
    by true a h = h
    by false true h = refl
    by false false h = refl

pub good_exactly : GoodExactly
unfolding good_flags flag_test
good_exactly f = good_from required f (bit name_me f)

good_is : (x : FlagTest) → is_good x ≡ true → x ≡ Ok tt
good_is (Ok _) e = refl
good_is (Err w) e = absurd (true≢false (sym e))

pub test_good : (f : ℕ) → good_flags f ≡ true → flag_test f ≡ Ok tt
test_good f e = good_is (flag_test f) (sym (good_exactly f) ∙ e)

pub good_flags_lem : (f : ℕ) → flag_test f ≡ Ok tt → good_flags f ≡ true
good_flags_lem f e = good_exactly f ∙ ap is_good e

-- where 9 is not given, the test says good
pub none_bad : (x : FlagTest) → NoneHolds (flag_tests x) → x ≡ Ok tt
none_bad (Ok _) h = refl
none_bad (Err w) h = absurd (true≢false h.0)

-- ---- missing

-- a list whose numbers rise, from lo on
abbrev pub Rising : ℕ → List ℕ → Type 0
Rising lo [] = Unit
Rising lo (i ∷ is) = (lo ≤ i) × Rising (suc i) is

pub rising : Rising 0 required
rising = (omega arith, (omega arith, (omega arith, (omega arith, (omega arith, tt)))))

-- none below lo is of such a list
too_low : (is : List ℕ) (lo i : ℕ) → Rising lo is → i < lo → among i is ≡ false
too_low [] lo i r l = refl
too_low (j ∷ js) lo i r l = rw (ne_eqb i j (λ (e : i ≡ j). absurd (omega (arith, r.0, l)))) (too_low js (suc j) i r.1 (omega (arith, r.0, l)))

-- of the bits `is`: i is the first that is clear
record First (is : List ℕ) (f i : ℕ) : Type 0 where
  of : among i is ≡ true
  clear : bit i f ≡ false
  below : (k : ℕ) → k < i → among k is ≡ true → bit k f ≡ true

-- what a list of missing bits says
abbrev Tells : List ℕ → ℕ → List ℕ → Type 0
Tells is f [] = (i : ℕ) → among i is ≡ true → bit i f ≡ true
Tells is f (i ∷ rest) = First is f i

tells : (is : List ℕ) (lo f : ℕ) → Rising lo is → Tells is f (missing is f)
tells [] lo f r = λ i e. absurd (true≢false (sym e))
tells (j ∷ js) lo f r = by (bit j f) refl (missing js f) (tells js (suc j) f r.1)
  where
    -- j itself is set, and so are those of js that are asked for
    either : (k : ℕ) (x : Bool) → eqb k j ≡ x → bit j f ≡ true → (among k js ≡ true → bit k f ≡ true) → (x || among k js) ≡ true → bit k f ≡ true
    either k true p q g o = ap (λ (u : ℕ). bit u f) (eqb-true k j p) ∙ q
    either k false p q g o = g o

    by : (b : Bool) → bit j f ≡ b → (m : List ℕ) → Tells js f m → Tells (j ∷ js) f (cond b m (j ∷ m))
    by true q [] h = λ k. either k (eqb k j) refl q (h k)
    by true q (i ∷ rest) h =
        record { of = rw h.of (or-true (eqb i j)); clear = h.clear; below = λ k l. either k (eqb k j) refl q (h.below k l) }
    by false q m h =
        record {
          of = rw (eq-eqb j j refl);
          clear = q;
          below = λ k l o. absurd (true≢false (sym o ∙ rw (ne_eqb k j (λ (e : k ≡ j). absurd (omega (arith, l)))) (too_low js (suc j) k r.1 (omega (arith, l)))));
        }

-- ---- counted

-- a list whose numbers are at most w
abbrev pub Under : ℕ → List ℕ → Type 0
Under w [] = Unit
Under w (i ∷ is) = (i ≤ w) × Under w is

pub under : Under 63 required
under = (omega arith, (omega arith, (omega arith, (omega arith, (omega arith, tt)))))

none_clear : (n f : ℕ) → clear_below [] n f ≡ 0
none_clear zero f = refl
none_clear (suc n) f = omega (arith, none_clear n f)

abbrev once : Bool → ℕ
once b = cond b 1 0

-- a clear bit counts once, from where it stands on
abbrev one : ℕ → ℕ → ℕ → ℕ
one i n f = once (ltb i n && not (bit i f))

one_more : (i : ℕ) (is : List ℕ) (f n : ℕ) → Rising (suc i) is → clear_below (i ∷ is) n f ≡ one i n f + clear_below is n f
one_more i is f zero r = rw (le-ltb i 0 (omega arith)) refl
one_more i is f (suc n) r = by (eqb n i) refl (one_more i is f n r)
  where
    by : (x : Bool) → eqb n i ≡ x → clear_below (i ∷ is) n f ≡ one i n f + clear_below is n f
        → once ((x || among n is) && not (bit n f)) + clear_below (i ∷ is) n f ≡ one i (suc n) f + (once (among n is && not (bit n f)) + clear_below is n f)
    by true e h =
        let q = eqb-true n i e in
        let here : ltb i (suc n) ≡ true = lt-ltb i (suc n) (omega (arith, q)) in
        let last : ltb i n ≡ false = le-ltb i n (omega (arith, q)) in
        let new = too_low is (suc i) n r (omega (arith, q)) in
        let same : once (not (bit n f)) ≡ once (not (bit i f)) = ap (λ (j : ℕ). once (not (bit j f))) q in
        let before : clear_below (i ∷ is) n f ≡ clear_below is n f = h ∙ ap (λ (b : Bool). once (b && not (bit i f)) + clear_below is n f) last ∙ omega arith in
        rw (here, new) (omega (arith, before, same))
    by false e h = rw (later (ltb i n) refl) (omega (arith, h))
      where
        later : (x : Bool) → ltb i n ≡ x → ltb i (suc n) ≡ ltb i n
        later true l = lt-ltb i (suc n) (omega (arith, ltb-true i n l)) ∙ sym l
        later false l = le-ltb i (suc n) (omega (arith, ltb-false i n l, eqb-false n i e)) ∙ sym l

counted : (is : List ℕ) (lo w f : ℕ) → Rising lo is → Under w is → length (missing is f) ≡ clear_below is (suc w) f
counted [] lo w f r u = sym (none_clear (suc w) f)
counted (i ∷ is) lo w f r u =
    by (bit i f) ∙ ap (λ (n : ℕ). once (not (bit i f)) + n) (counted is (suc i) w f r.1 u.1)
    ∙ sym (one_more i is f (suc w) r.1 ∙ rw (lt-ltb i (suc w) (omega (arith, u.0))) refl)
  where
    by : (b : Bool) → length (cond b (missing is f) (i ∷ missing is f)) ≡ once (not b) + length (missing is f)
    by true = omega arith
    by false = omega arith

-- ---- the test

pub flags_tested : FlagsTested
unfolding flag_test
flags_tested f = by (missing required f) (bit name_me f) refl (tells required 0 f rising) (counted required 0 63 f rising under)
  where
    lacks : (i n : ℕ) → First required f i → n ≡ clear_below required 64 f → Lacks f n i
    lacks i n h e = record { counted = e; required = h.of; clear = h.clear; first = h.below }

    by : (m : List ℕ) (asked : Bool) → bit name_me f ≡ asked → Tells required f m → length m ≡ clear_below required 64 f → Says f (test_of m asked)
    by [] true e h n = (h, e)
    by [] false e h n = (h, e)
    by (i ∷ rest) true e h n = lacks i (length (i ∷ rest)) h n
    by (i ∷ rest) false e h n = lacks i (length (i ∷ rest)) h n

-- a count that is told is that of the bits missing, and not 0
pub counts : (m : List ℕ) (asked : Bool) (n i : ℕ) → test_of m asked ≡ Err (Missing n i) → (1 ≤ n) × (n ≡ length m)
counts [] true n i e = let z : ◌≡◌ {A = ℕ} 0 1 = cc in absurd (omega arith)
counts [] false n i e = let z : ◌≡◌ {A = ℕ} 0 1 = cc in absurd (omega arith)
counts (j ∷ js) asked n i e = let z : length (j ∷ js) ≡ n = cc in (omega (arith, z), sym z)

-- of two that are both the lowest neither is lower
lowest_same : (f c d i j : ℕ) → Lacks f c i → Lacks f d j → i ≡ j
lowest_same f c d i j g h = by (ltb i j) (ltb j i) refl refl
  where
    by : (x y : Bool) → ltb i j ≡ x → ltb j i ≡ y → i ≡ j
    by true y p q = absurd (true≢false (sym (h.first i (ltb-true i j p) g.required) ∙ g.clear))
    by false true p q = absurd (true≢false (sym (g.first j (ltb-true j i q) h.required) ∙ h.clear))
    by false false p q = omega (arith, ltb-false i j p, ltb-false j i q)

pub one_answer : OneAnswer
one_answer f (Ok _) (Ok _) p q = refl
one_answer f (Ok _) (Err NameMe) p q = absurd (true≢false (sym q.1 ∙ p.1))
one_answer f (Ok _) (Err (Missing c i)) p q = absurd (true≢false (sym (p.0 i q.required) ∙ q.clear))
one_answer f (Err NameMe) (Ok _) p q = absurd (true≢false (sym p.1 ∙ q.1))
one_answer f (Err NameMe) (Err NameMe) p q = refl
one_answer f (Err NameMe) (Err (Missing c i)) p q = absurd (true≢false (sym (p.0 i q.required) ∙ q.clear))
one_answer f (Err (Missing c i)) (Ok _) p q = absurd (true≢false (sym (q.0 i p.required) ∙ p.clear))
one_answer f (Err (Missing c i)) (Err NameMe) p q = absurd (true≢false (sym (q.0 i p.required) ∙ p.clear))
one_answer f (Err (Missing c i)) (Err (Missing d j)) p q = ap₂ (λ (u v : ℕ). Err (Missing u v)) (p.counted ∙ sym q.counted) (lowest_same f c d i j p q)
