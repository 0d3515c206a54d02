-- `bytes` meets its contract: the bytes of each word go to its place.
-- Assumes nothing.
use Rattle.std.proofs.Common.{refl, ◌∙◌}
use Rattle.md5_digest.proofs.Blocks.{le_bytes}
use Rattle.md5_digest.proofs.padding.bytes.Goals as goal

pub returns : goal.returns
returns c =
    let s = c.args.s in
    let a = c.copy_from_slice.ensures.after ∙ c.to_le_bytes.ensures ∙ le_bytes 4 s.a in
    let b = c.copy_from_slice-2.ensures.after ∙ c.to_le_bytes-2.ensures ∙ le_bytes 4 s.b in
    let g = c.copy_from_slice-3.ensures.after ∙ c.to_le_bytes-3.ensures ∙ le_bytes 4 s.c in
    let d = c.copy_from_slice-4.ensures.after ∙ c.to_le_bytes-4.ensures ∙ le_bytes 4 s.d in
    rw (a, b, g, d) refl
