-- `digest` meets its contract. The loops' invariant: s is the state after the blocks so far of the padded text.
-- Assumes nothing.
use Rattle.std.proofs.Common.{◌≡◌, ℕ, ◌+◌, ◌/◌, ◌%◌, List, length, refl, ap, ap₂, ◌∙◌, add-one, arith}
use Rattle.md5_digest.specs.Md5.{pad, block, compress, initial, process, output, md5}
use Rattle.md5_digest.specs.declared.step.State.{State}
use Rattle.md5_digest.proofs.Blocks.{pad_length, pad_blocks, chunk_block}
use Rattle.md5_digest.proofs.digest.Goals as goal

more : {s : State} {b : List ℕ} (l : List ℕ) (i : ℕ) → s ≡ process l i → b ≡ block l i → compress s b ≡ process l (i + 1)
unfolding process initial
more l i e f = rw add-one (ap₂ compress e f)

pub loop-x-init : goal.loop-x-init
unfolding process initial
loop-x-init c = refl

pub loop-x-preserved : goal.loop-x-preserved
loop-x-preserved c =
    let t : List ℕ = c.args.text.now in
    let h = c.loop-x in
    c.compress-s.ensures ∙ more (pad t) h.x-index h.invariant (chunk_block h.x-index t _ c.as_chunks.ensures.front (omega arith))

pub last-requires-clause-i_in_bounds : goal.last-requires-clause-i_in_bounds
last-requires-clause-i_in_bounds c = omega (arith, pad_length c.args.text.now)

pub loop-i-preserved : goal.loop-i-preserved
loop-i-preserved c =
    let h = c.loop-i in
    c.compress-s-in-loop-i.ensures ∙ more (pad c.args.text.now) h.i h.invariant c.last.ensures

pub returns : goal.returns
unfolding md5
returns c =
    let t : List ℕ = c.args.text.now in
    let h = c.loop-i in
    let e : h.i ≡ length t / 64 + (length t % 64 + 72) / 64 = omega arith in
    c.bytes.ensures ∙ ap output (h.invariant ∙ ap (process (pad t)) (e ∙ pad_blocks t))
