-- `flag_test` meets its contract: what it counts is what the definition lists.
use Prim.Native.Nat.{ℕ, ◌-◌, ◌/◌, ◌%◌, ◌^◌, ◌<◌, ◌*◌}
use mathlib.Core.Path.{◌≡◌, refl, sym, ◌∙◌, ap, ap₂}
use mathlib.Core.Bool.{Bool}
use mathlib.Core.List.{List, [], ◌∷◌}
use native.Mathlib.Omega.{arith}
use lib.Bits.{bit_and}
use Rattle.std.proofs.lemmas.Nat.Bits.{and_pow}
use lib.Dec.{eqb}
use lib.Count.{ones, count_trailing_zeros}
use borrow.Author.Tests.{eq-eqb}
use borrow.Author.Rules.{rules}
use Rattle.handshake_rules.specs.declared.flags.FlagFlaw.TheVariants.{Missing}
use Rattle.std.specs.Prelude.{Err}
use Rattle.handshake_rules.specs.Flags.{bit, required, name_me, missing, test_of, flag_test}
use Rattle.handshake_rules.proofs.FlagLaws.{rising, Under, under}
use Rattle.handshake_messages.proofs.Masks.{mask, mask_ones, mask_none, mask_lowest, under_missing, lacking}
use Rattle.handshake_messages.proofs.flags.flag_test.Goals as goal

lacks : (f : ℕ) → f < 2 ^ 64 → bit_and (mask 0 required) (18446744073709551615 - f) ≡ mask 0 (missing required f)
lacks f h = lacking required 63 f rising under h

-- the first argument: those missing

told : (m : List ℕ) (asked : Bool) → Under 63 m → (mask 0 m ≡ 0 → ⊥) → Err (Missing (ones (mask 0 m)) (count_trailing_zeros 64 (mask 0 m))) ≡ test_of m asked
told [] asked u n = absurd (n refl)
told (i ∷ is) asked u n = ap₂ (λ (x y : ℕ). Err (Missing x y)) (mask_ones (i ∷ is) 0) (mask_lowest 64 i is (omega (arith, u.0)))

none : (f : ℕ) → f < 2 ^ 64 → bit_and (mask 0 required) (18446744073709551615 - f) ≡ 0 → missing required f ≡ []
none f h e = mask_none (missing required f) (sym (lacks f h) ∙ e)

pub returns-then-lacking-ne0 : goal.returns-then-lacking-ne0
unfolding flag_test
returns-then-lacking-ne0 c =
    let f = c.args.flags in
    let s : f < 2 ^ 64 = search rules in
    let e = lacks f s in
    ap (λ (x : ℕ). Err (Missing (ones x) (count_trailing_zeros 64 x))) e
    ∙ told (missing required f) (bit name_me f) (under_missing required 63 f under) (λ z. c.if-lacking-ne0.true (e ∙ z))

-- bit 33 alone, as the mask leaves it
alone : (f : ℕ) → bit_and f 8589934592 ≡ f / 8589934592 % 2 * 8589934592
alone f = and_pow f 33

pub returns-then-flags-ne0 : goal.returns-then-flags-ne0
unfolding flag_test
returns-then-flags-ne0 c =
    let f = c.args.flags in
    let s : f < 2 ^ 64 = search rules in
    let e : f / 8589934592 % 2 ≡ 1 = omega (arith, alone f, c.if-flags-ne0.true) in
    sym (ap₂ test_of (none f s c.if-lacking-ne0.false) (eq-eqb (f / 8589934592 % 2) 1 e))

pub returns : goal.returns
unfolding flag_test
returns c =
    let f = c.args.flags in
    let s : f < 2 ^ 64 = search rules in
    let e : f / 8589934592 % 2 ≡ 0 = omega (arith, alone f, c.if-flags-ne0.false) in
    sym (ap₂ test_of (none f s c.if-lacking-ne0.false) (ap (λ (b : ℕ). eqb b 1) e))
