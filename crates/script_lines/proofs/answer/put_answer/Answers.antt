-- `script_lines::answer::put_answer` meets its contract: five writes side by side. Assumes nothing.
use Prim.Native.Nat.{ℕ, ◌+◌, ◌*◌}
use mathlib.Core.Path.{refl, ap, ◌∙◌}
use mathlib.Core.List.{List, [], ◌∷◌, ◌++◌}
use native.Mathlib.Omega.{arith}
use lib.ListN.{length, length-append}
use Rattle.wire.specs.Decimal.{decimal}
use Rattle.wire.specs.Output.{overwrite, written}
use Rattle.wire.proofs.OutputLaws.{overwrite_front, overwrite_next}
use Rattle.script_lines.specs.Text.{hex_of}
use Rattle.script_lines.specs.Answer.{result_key, hex_line}
use Rattle.script_lines.proofs.TextLaws.{hex_length}
use Rattle.script_lines.proofs.AnswerLaws.{answer_split, answer_length}
use Rattle.script_lines.proofs.answer.put_answer.Goals as goal

pub returns : goal.returns
returns c =
    let a = c.args in
    let o = a.out.now in
    let d : List ℕ = decimal a.res in
    let h : List ℕ = hex_of a.reply.now in
    let p = c.put_decimal-d in
    let n : ℕ = p.result in
    let z = p.ensures.value in
    let k : List ℕ = result_key ++ d in
    let e1 = c.put_bytes.ensures ∙ overwrite_front o result_key in
    let e2 = p.ensures.out_after ∙ ap (λ (x : List ℕ). overwrite x 7 d) e1 ∙ overwrite_next o 7 result_key d refl in
    let e3 = c.put_bytes-2.ensures ∙ ap (λ (x : List ℕ). overwrite x (7 + n) hex_line) e2 ∙ overwrite_next o (7 + n) k hex_line (omega (arith, z)) in
    let e4 = c.put_hex.ensures ∙ ap (λ (x : List ℕ). overwrite x (7 + n + 5) h) e3
    ∙ overwrite_next o (7 + n + 5) (k ++ hex_line) h (omega (arith, z, length-append k hex_line)) in
    let e5 = c.put_bytes-3.ensures ∙ ap (λ (x : List ℕ). overwrite x (7 + n + 5 + 2 * length a.reply.now) (10 ∷ [])) e4
    ∙ overwrite_next o (7 + n + 5 + 2 * length a.reply.now) ((k ++ hex_line) ++ h) (10 ∷ [])
    (omega (arith, z, length-append k hex_line, length-append (k ++ hex_line) h, hex_length a.reply.now)) in
    record {
      value = omega (arith, z, answer_length a.res a.reply.now);
      out_after = e5 ∙ ap (λ (x : List ℕ). written x o) (answer_split a.res a.reply.now);
    }
