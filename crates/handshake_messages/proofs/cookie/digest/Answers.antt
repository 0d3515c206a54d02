-- The decimal text has at most ten characters, so that it fits behind the cookie; what is digested is the two side by side.
use Rattle.md5_digest.specs.Md5.{md5}
use Rattle.wire.specs.Output.{overwrite}
use lib.Seq.{length-take-le}
use lib.ListN.{take, replicate}
use mathlib.Core.List.{List}
use Rattle.handshake_rules.proofs.CookieLaws.{joined}
use Rattle.handshake_rules.specs.Cookie.{digest_of}
use Rattle.wire.proofs.DecimalLaws.{decimal_text}
use Rattle.wire.specs.Decimal.{decimal}
use lib.ListN.{length}
use native.Mathlib.Omega.{arith}
use mathlib.Core.Path.{◌≡◌, refl, sym, ap, ◌∙◌}
use Prim.Native.Nat.{ℕ, ◌^◌, ◌<◌, ◌+◌}
use borrow.Author.Rules.{rules}
use Rattle.handshake_messages.proofs.cookie.digest.Goals as goal

pub put_decimal-requires : goal.put_decimal-requires
put_decimal-requires c =
    let a = c.args in
    let h : a.challenge < 2 ^ 32 = search rules in
    let k : length c.put_bytes.new.out ≡ 265 = search rules in
    omega (arith, (decimal_text a.challenge h).few)

pub overflow_add-m : goal.overflow_add-m
overflow_add-m c =
    let a = c.args in
    let h : a.challenge < 2 ^ 32 = search rules in
    record { fits = omega (arith, c.put_decimal.ensures.value, (decimal_text a.challenge h).few) }

pub slice_bounds-text-end : goal.slice_bounds-text-end
slice_bounds-text-end c =
    let a = c.args in
    let h : a.challenge < 2 ^ 32 = search rules in
    let k : length c.put_decimal.new.out ≡ 265 = search rules in
    omega (arith, c.put_decimal.ensures.value, (decimal_text a.challenge h).few)

pub slice_bounds-digest-end : goal.slice_bounds-digest-end
slice_bounds-digest-end c =
    let a = c.args in
    let h : a.challenge < 2 ^ 32 = search rules in
    let k : length c.put_decimal.new.out ≡ 265 = search rules in
    sym (length-take-le _ c.put_decimal.new.out (omega (arith, c.put_decimal.ensures.value, (decimal_text a.challenge h).few)))

pub returns : goal.returns
unfolding digest_of
returns c =
    let a = c.args in
    let k = a.cookie.now in
    let d = decimal a.challenge in
    let z = replicate {A = ℕ} 265 0 in
    let copied = c.put_bytes in
    let told = c.put_decimal in
    let one : copied.new.out ≡ overwrite z 0 k = copied.ensures in
    let two : told.new.out ≡ overwrite (overwrite z 0 k) (length k) d = told.ensures.out_after ∙ ap (λ (x : List ℕ). overwrite x (length k) d) one in
    let m = length k + told.result in
    c.digest.ensures ∙ ap (λ (x : List ℕ). md5 (take m x)) two
    ∙ ap md5 (joined z k d (length k) m refl (ap (λ (n : ℕ). length k + n) told.ensures.value))
