-- `tail` meets its contract: a zeroed block shows nothing, then the text's bytes, then the one bit.
-- Assumes nothing.
use Rattle.std.proofs.Common.{◌≡◌, ℕ, ◌-◌, List, ◌++◌, length, take, drop, refl, ap, ◌∙◌, arith, length-take, length-drop}
use Rattle.std.proofs.lemmas.List.{take_rest, take-append-drop}
use Rattle.md5_digest.proofs.Blocks.{shows_none, shows_more, shows_earlier, shows_put, shows_bits}
use Rattle.md5_digest.proofs.padding.tail.Goals as goal

pub returns-else-at-n : goal.returns-else-at-n
returns-else-at-n c =
    let a = c.args in
    shows_bits a.text.now (shows_earlier _ (omega arith) (shows_none a.text.now a.at refl (omega arith)))

pub returns-then-at-n : goal.returns-then-at-n
returns-then-at-n c =
    let t : List ℕ = c.args.text.now in
    let at : ℕ = c.args.at in
    let n : ℕ = length t - at in
    let v : List ℕ = c.copy_from_slice.new.self in
    let e : v ≡ drop at t = c.copy_from_slice.ensures.after ∙ take_rest t at in
    shows_bits t
    (shows_more n 128 (omega arith) (omega arith)
    (shows_put 0 n v (ap length e ∙ length-drop at t) (omega arith) (omega (arith, length-take at t))
    (ap (λ (l : List ℕ). take at t ++ l) e ∙ take-append-drop at t)
    (shows_none (take at t) at refl (omega (arith, length-take at t)))))
