-- `compress` meets its contract: four rounds are 64 operations, and the sums are the words'.
-- Assumes nothing.
use Rattle.std.proofs.Common.{◌≡◌, refl, ap, ◌∙◌, rules}
use Rattle.md5_digest.specs.Md5.{F, G, H, I, operations, run, add, compress}
use Rattle.md5_digest.proofs.Words.{added}
use Rattle.md5_digest.proofs.rounds.compress.Goals as goal

pub returns : goal.returns
unfolding compress run
returns c =
    let s = c.args.s in
    let r = c.round-r-4.result in
    let e1 = c.round-r.ensures F (search rules) in
    let e2 = c.round-r-2.ensures G (search rules) in
    let e3 = c.round-r-3.ensures H (search rules) in
    let e4 = c.round-r-4.ensures I (search rules) in
    let whole : r ≡ run c.args.x.now operations s = rw (e4, e3, e2, e1) refl in
    added s r refl refl refl refl ∙ ap (add s) whole
