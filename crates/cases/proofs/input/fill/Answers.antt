use Rattle.std.proofs.Common.{ℕ, List, ◌≡◌, ◌+◌, ◌-◌, ◌≤◌, ◌++◌, length, take, sym, ap, ◌∙◌, subst, rules}
use Rattle.std.proofs.Math.Seq.{take-append-add}
use Rattle.std.proofs.lemmas.List.{take-append-le}
use Rattle.std.specs.Io.KnownBytes.{Consumes}
use Rattle.std.proofs.KnownBytes.{Consumes-trans}
use lib.Seq.{length-take-le}
use borrow.Rule.Slice.PartMut.{post_of}
use Rattle.cases.proofs.input.fill.Goals as goal

-- what was read before, and the first n bytes of what came behind it
front : (a n : ℕ) (xs ys rest : List ℕ) → a ≤ length xs → n ≤ length ys → take (a + n) (take a xs ++ (ys ++ rest)) ≡ take a xs ++ take n ys
front a n xs ys rest h k =
    ap (λ (m : ℕ). take (m + n) (take a xs ++ (ys ++ rest))) (sym (length-take-le a xs h))
    ∙ take-append-add (take a xs) (ys ++ rest) n
    ∙ ap (λ (l : List ℕ). take a xs ++ l) (take-append-le n ys rest k)

pub loop-done-preserved : goal.loop-done-preserved
loop-done-preserved g c =
    let l = c.loop-done in
    let s = l.space in
    let ys = c.read.new.buf in
    let n = c.in_ok-n.n in
    let k : ℕ = length s - l.done in
    let few : n ≤ length ys = c.in_ok-n.ensures.bound.0 in
    let e = front l.done n s ys (post_of l.done k s) l.invariant.within few in
    record {
      within = search rules;
      taken = subst (λ (bs : List ℕ). Consumes (g.R.Read.remaining c.args.from.now) (g.R.Read.remaining c.read.new.self) bs) (sym e) (Consumes-trans _ _ _ _ _ l.invariant.taken c.in_ok-n.ensures.bytes.0);
    }
