-- The first i bytes are written, two digits each.
use Prim.Native.Nat.{ℕ, ◌+◌, ◌*◌, ◌/◌, ◌%◌}
use mathlib.Core.Path.{◌≡◌, refl, sym, ap, ap₂, ◌∙◌}
use mathlib.Core.List.{List, [], ◌∷◌}
use native.Mathlib.Omega.{arith}
use lib.ListN.{get_or}
use lib.Seq.{take_all}
use Rattle.wire.specs.Output.{overwrite}
use Rattle.wire.proofs.OutputLaws.{overwrite_none}
use Rattle.script_lines.specs.Text.{digit_char, hex_of}
use Rattle.script_lines.proofs.TextLaws.{hex_next}
use borrow.Author.Rules.{rules}
use Rattle.script_lines.proofs.text.put_hex.Goals as goal

pub loop-i-init : goal.loop-i-init
unfolding hex_of
loop-i-init c = (refl, sym (overwrite_none c.args.out.now c.args.at))

pub loop-i-preserved : goal.loop-i-preserved
loop-i-preserved c =
    let l = c.loop-i in
    let a = c.args in
    let b : ℕ = get_or a.src.now l.i 0 in
    let d = c.digit_char in
    let e = c.digit_char-in-loop-i in
    let pair : ◌≡◌ {A = List ℕ} (d.result ∷ e.result ∷ []) (digit_char (b / 16) ∷ digit_char (b % 16) ∷ []) = λ j. d.ensures j ∷ e.ensures j ∷ [] in (
      search rules,
      c.put_bytes.ensures
          ∙ ap₂ (λ (x y : List ℕ). overwrite x (a.at + 2 * l.i) y) l.invariant.1 pair
          ∙ hex_next a.out.now a.src.now a.at l.i b (omega arith) (omega arith) refl,
    )

pub returns : goal.returns
returns c =
    let l = c.loop-i in
    let a = c.args in
    l.invariant.1 ∙ ap (λ (x : List ℕ). overwrite a.out.now a.at (hex_of x)) (take_all l.i a.src.now (omega arith))
