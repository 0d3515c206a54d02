-- `behind` meets its contract: where the rest is long enough, its bytes are in their ranges exactly if each test passes.
use Rattle.std.proofs.Common.{◌≡◌, rules, ◌-◌, ℕ, true, false, refl, sym, ap, ◌∙◌, arith, List, ◌∷◌, replicate, take, drop, get_or}
use lib.ListN.{length-replicate}
use borrow.Author.Tests.{tests}
use Rattle.std.specs.Bool.{then_some}
use Rattle.std.specs.List.{list_all}
use Rattle.std.proofs.lemmas.Iterator.{YieldsList-from_slice}
use Rattle.std.proofs.lemmas.Iterator.Search.{all_from_yields_List}
use Rattle.names.specs.Utf8.{Range, ◌to◌, has, tail}
use Rattle.names.proofs.Utf8Laws.{follow_behind, follow_short, found_behind}
use Rattle.names.proofs.utf8.behind.Goals as goal
use Rattle.names.proofs.utf8.behind.Goals.{then-rest-via-then-rest, then-rest-via-else-rest+then-not-contains}

pub returns-then-rest : goal.returns-then-rest
returns-then-rest g c =
    let n : ℕ = g.row.N - 1 in
    let r : Range = c.args.lo to c.args.hi in
    let xs : List ℕ = c.args.rest.now in
    elim c.then-rest.branch [
      | then-rest-via-then-rest w ↦ found_behind r n xs false (follow_short (r ∷ replicate n tail) xs (omega (arith, length-replicate n tail)))
      | then-rest-via-else-rest+then-not-contains w ↦
          let h : has r (get_or xs 0 0) ≡ false = search rules in
          found_behind r n xs false (follow_behind r n xs (omega arith) ∙ rw h refl)
    ]

pub returns : goal.returns
returns g c =
    let n : ℕ = g.row.N - 1 in
    let r : Range = c.args.lo to c.args.hi in
    let xs : List ℕ = c.args.rest.now in
    let h : has r (get_or xs 0 0) ≡ true = search rules in
    let a : c.all.result ≡ list_all (has tail) (take n (drop 1 xs)) =
    all_from_yields_List (has tail) _ _ c.all.result c.all.ensures.ran (YieldsList-from_slice (take n (drop 1 xs)) cc) (λ x b q k. search (rules, tests)) in
    c.then_some.ensures ∙ ap (then_some c.all.result) (omega arith)
    ∙ found_behind r n xs c.all.result (follow_behind r n xs (omega arith) ∙ rw h (sym a))
