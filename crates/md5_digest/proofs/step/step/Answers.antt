-- `step` meets its contract: what it computes is the operation with whatever function its auxiliary function is.
-- Assumes nothing.
use Rattle.std.proofs.Common.{◌≡◌, ℕ, ◌-◌, ◌*◌, ◌/◌, ◌%◌, ◌^◌, ◌<◌, ap₂, ◌∙◌, arith, rules}
use lib.Bits.{bit_or}
use Rattle.md5_digest.specs.Md5.{◌⊞◌, ◌<<<◌, op}
use Rattle.md5_digest.proofs.Words.{rotated}
use Rattle.md5_digest.proofs.step.step.Goals as goal

-- a rotation that is written as its two shifts
shifted : (x k : ℕ) → x < 2 ^ 32 → 0 < k → k < 32 → bit_or ((x * 2 ^ k) % 2 ^ 32) (x / 2 ^ (32 - k)) ≡ x <<< k
shifted x k h low b = ap₂ (λ (m n : ℕ). bit_or ((x * 2 ^ m) % 2 ^ 32) (x / 2 ^ n)) (omega arith) (omega arith) ∙ rotated x k h low b

pub returns : goal.returns
unfolding op
returns g c = λ m law.
    let w = c.args.w in
    let o = c.requires.sound in
    let s = c.args.operation.1 in
    let mixed = law w.b w.c w.d c.auxiliary-mixed.result (search rules) (search rules) (search rules) c.auxiliary-mixed.ensures in
    let sum = ((w.a ⊞ c.auxiliary-mixed.result) ⊞ c.word.result) ⊞ c.args.operation.3 in
    let fits : sum < 2 ^ 32 = search rules in
    let turned = rotated sum s fits o.1 o.2 in
    let by_shifts = shifted sum s fits o.1 o.2 in
    cc (mixed, c.word.ensures, o.3)
