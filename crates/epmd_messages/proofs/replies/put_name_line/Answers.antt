use Prim.Native.Nat.{ℕ, ◌+◌, ◌≤◌}
use mathlib.Core.Path.{refl, ap, ◌∙◌}
use mathlib.Core.List.{List, [], ◌∷◌, ◌++◌}
use native.Mathlib.Omega.{arith}
use lib.ListN.{length, length-append}
use Rattle.wire.specs.Output.{overwrite}
use Rattle.wire.specs.Decimal.{decimal}
use Rattle.wire.proofs.OutputLaws.{overwrite_join}
use Rattle.epmd_rules.specs.Replies.{name_word, port_word}
use Rattle.epmd_rules.proofs.ReplyLaws.{line_split, line_length}
use Rattle.epmd_messages.proofs.replies.put_name_line.Goals as goal

pub returns-clause-value : goal.returns-clause-value
returns-clause-value c = omega (arith, c.put_port.ensures.value, line_length c.args.name.now c.args.port)

pub returns-clause-out_after : goal.returns-clause-out_after
returns-clause-out_after c =
    let a = c.args in
    let pre = c.requires in
    let o = a.out.now in
    let at = a.at in
    let n = a.name.now in
    let d = decimal a.port in
    let k = c.put_port.ensures in
    let l1 : at + 5 ≤ length o = omega (arith, pre.0) in
    let j = at + 5 + length n in
    let e2 = c.put_bytes-2.ensures ∙ ap (λ (x : List ℕ). overwrite x (at + 5) n) c.put_bytes.ensures ∙ overwrite_join o at name_word n (at + 5) (omega arith) refl in
    let e3 = c.put_bytes-3.ensures ∙ ap (λ (x : List ℕ). overwrite x j port_word) e2 ∙ overwrite_join o at (name_word ++ n) port_word j (omega arith) (omega arith) in
    let e4 = k.out_after ∙ ap (λ (x : List ℕ). overwrite x (j + 9) d) e3
    ∙ overwrite_join o at ((name_word ++ n) ++ port_word) d (j + 9) (omega arith) (omega (arith, length-append n port_word)) in
    let i = j + 9 + c.put_port.result in
    let e5 = c.put_bytes-4.ensures ∙ ap (λ (x : List ℕ). overwrite x i (10 ∷ [])) e4
    ∙ overwrite_join o at (((name_word ++ n) ++ port_word) ++ d) (10 ∷ []) i (omega arith) (omega (arith, k.value, length-append n port_word, length-append (n ++ port_word) d)) in
    e5 ∙ ap (overwrite o at) (line_split n a.port)
