-- A call writes into the room that each reply fits, and leaves the rest of the output alone. Assumes nothing.
use Prim.Native.Nat.{ℕ, ◌≤◌}
use mathlib.Core.Path.{◌≡◌, sym, ap, ◌∙◌}
use mathlib.Core.List.{List, ◌++◌, append_assoc}
use native.Mathlib.Omega.{arith}
use lib.ListN.{length, take, drop, length-append, take-append-drop}
use lib.Seq.{length-take-le}
use Rattle.std.specs.Prelude.{Result}
use Rattle.std.proofs.lemmas.List.{drop-append-le}
use Rattle.wire.specs.Output.{written}
use Rattle.epmd_rules.specs.declared.refusal.Refusal.{Refusal}
use Rattle.epmd_rules.specs.State.{Registry}
use Rattle.epmd_rules.specs.Requests.{room}
use Rattle.epmd_rules.specs.Serve.{request_of}
use Rattle.epmd_rules.proofs.RequestLaws.{any_room}
use Rattle.epmd_state.specs.Bytes.{Does}

written_front : (n : ℕ) (bs xs : List ℕ) → n ≤ length xs → length (written bs (take n xs)) ≡ n → written bs (take n xs) ++ drop n xs ≡ written bs xs
unfolding written
written_front n bs xs h l =
    let t : length (take n xs) ≡ n = length-take-le n xs h in
    let k : length bs ≤ length (take n xs) = omega (arith, l, t, length-append bs (drop (length bs) (take n xs))) in
    append_assoc bs (drop (length bs) (take n xs)) (drop n xs)
    ∙ ap (λ (l : List ℕ). bs ++ l) (sym (drop-append-le (length bs) (take n xs) (drop n xs) k) ∙ ap (drop (length bs)) (take-append-drop n xs))

-- what a call does in the room is what it does on the whole output
pub does_all : (r : Registry) (c : ℕ) (frame : List ℕ) (told : Result ℕ Refusal) (state front front' out : List ℕ) → room ≤ length out → front ≡ take room out
    → length front' ≡ room → Does (request_of r c frame room) told state front front'
    → Does (request_of r c frame (length out)) told state out (front' ++ drop room out)
unfolding request_of
does_all r c frame told state front front' out h f l d =
    let e : front' ≡ written (request_of r c frame room).bytes (take room out) = d.output ∙ ap (written (request_of r c frame room).bytes) f in
    rw (any_room frame (length out) h)
    (record {
      answer = d.answer;
      registry = d.registry;
      output = ap (λ (x : List ℕ). x ++ drop room out) e ∙ written_front room (request_of r c frame room).bytes out h (sym (ap length e) ∙ l);
    })
