-- `last` meets its contract: behind the text and its padding bits comes the length, in the last block.
-- Assumes nothing.
use Rattle.std.proofs.Common.{◌≡◌, ℕ, ◌*◌, ◌%◌, ◌^◌, List, ◌++◌, length, ap, ◌∙◌, arith}
use Rattle.md5_digest.specs.Md5.{bytes, with_bits, pad}
use Rattle.md5_digest.proofs.Blocks.{le_bytes, bits_length, pad_length, shows_later, shows_put, shows_block}
use Rattle.md5_digest.proofs.padding.last.Goals as goal

pub overflow_mul-at : goal.overflow_mul-at
overflow_mul-at c = omega (arith, pad_length c.args.text.now)

pub overflow_add-at : goal.overflow_add-at
overflow_add-at c = omega (arith, pad_length c.args.text.now)

pub returns-else-n-at : goal.returns-else-n-at
unfolding pad
returns-else-n-at c =
    let t : List ℕ = c.args.text.now in
    shows_block (pad t) c.args.i c.requires.i_in_bounds (shows_later _ (omega (arith, bits_length t)) c.tail-b.ensures)

pub returns-then-n-at : goal.returns-then-n-at
unfolding pad
returns-then-n-at c =
    let t : List ℕ = c.args.text.now in
    let v : List ℕ = c.copy_from_slice.new.self in
    let e : v ≡ bytes 8 (8 * length t % 2 ^ 64) =
    c.copy_from_slice.ensures.after ∙ c.to_le_bytes.ensures ∙ le_bytes 8 _ ∙ ap (bytes 8) (omega arith) in
    shows_block (pad t) c.args.i c.requires.i_in_bounds
    (shows_put 56 8 v (ap length e) (omega arith) (omega (arith, bits_length t, pad_length t, c.requires)) (ap (λ (l : List ℕ). with_bits t ++ l) e) c.tail-b.ensures)
