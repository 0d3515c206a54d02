use Rattle.std.proofs.Common.{rules, ◌≡◌, ◌∙◌, ap, ℕ, List, arith, ◌*◌, ◌/◌, length, drop}
use Rattle.std.specs.Simd.{first_chunks}
use lib.Seq.{take_all}
use lib.ListN.{length-drop}
use Rattle.epmd_state.specs.Bytes.{places, head_size, entry_size, size}
use Rattle.epmd_state.proofs.entry.records.Goals as goal

pub returns-clause-result_value : goal.returns-clause-result_value
returns-clause-result_value c =
    let s = c.args.state.now in
    let l : length s ≡ size = search rules in
    let d : length (drop head_size s) ≡ places * entry_size = omega (arith, l, length-drop head_size s) in
    let w : _ ≡ drop head_size s = take_all (places * entry_size) (drop head_size s) (omega (arith, d)) in
    c.as_chunks.ensures.front
    ∙ ap (λ (x : List ℕ). first_chunks entry_size (length x / entry_size) x) w
    ∙ ap (λ (n : ℕ). first_chunks entry_size (n / entry_size) (drop head_size s)) d
