-- The bytes made, and those that the rest of the text says.
use Prim.Native.Nat.{ℕ, ◌≤◌, ◌+◌, ◌*◌}
use mathlib.Core.Path.{◌≡◌, sym, ap, ap₂, ◌∙◌}
use native.Mathlib.Omega.{arith}
use lib.ListN.{length, get_or, drop, length-set}
use lib.Seq.{drop-set-lt, drop-drop}
use Rattle.script_lines.specs.Text.{digit_value}
use Rattle.script_lines.proofs.TextLaws.{hex_even, digits_at, pair_digit, unhex_next, unhex_count, unhex_written}
use Rattle.script_lines.proofs.text.get_hex.Goals as goal

pub byte_of-requires : goal.byte_of-requires
byte_of-requires c =
    let l = c.loop-k in
    let t = c.args.text.now in
    let d = (hex_even t c.requires.text_value).1 in
    let p = c.as_chunks.ensures in
    rw (pair_digit _ l.k 0 t _ p.front (omega (arith, p.front_len)) (omega arith), pair_digit _ l.k 1 t _ p.front (omega (arith, p.front_len)) (omega arith))
    (digits_at 16 t (2 * l.k + 0) d (omega (arith, p.front_len)), digits_at 16 t (2 * l.k + 1) d (omega (arith, p.front_len)))

pub loop-k-preserved : goal.loop-k-preserved
loop-k-preserved c =
    let l = c.loop-k in
    let t = c.args.text.now in
    let p = c.as_chunks.ensures in
    let z : 2 * l.k + 0 ≡ 2 * l.k = omega arith in
    let a = pair_digit _ l.k 0 t _ p.front (omega (arith, p.front_len)) (omega arith) ∙ ap (λ (j : ℕ). get_or t j 0) z in
    let b = pair_digit _ l.k 1 t _ p.front (omega (arith, p.front_len)) (omega arith) in
    let e = c.byte_of.ensures ∙ ap₂ (λ (x y : ℕ). digit_value x * 16 + digit_value y) a b in
    let v = c.byte_of.result in (
      simp length-set l.invariant.0,
      unhex_next t l.out l.k (omega (arith, p.front_len)) (omega (arith, p.front_len)) l.invariant.1 v e,
      drop-set-lt (l.k + 1) l.out l.k v (omega arith) ∙ sym (drop-drop 1 l.k l.out) ∙ ap (drop 1) l.invariant.2 ∙ drop-drop 1 l.k c.args.out.now,
    )

pub returns : goal.returns
returns c =
    let l = c.loop-k in
    let t = c.args.text.now in
    let o = c.args.out.now in
    let p = c.as_chunks.ensures in
    let even = (hex_even t c.requires.text_value).0 in
    let fits : l.k ≤ length l.out = omega (arith, p.front_len) in
    let all : length t ≤ 2 * l.k = omega (arith, p.front_len) in
    record {
      value = omega (arith, unhex_count t l.out o l.k fits all l.invariant.1 l.invariant.2);
      out_after = unhex_written t l.out o l.k fits all l.invariant.1 l.invariant.2;
    }
