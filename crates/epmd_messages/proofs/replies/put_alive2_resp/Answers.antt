use Prim.Native.Nat.{ℕ}
use mathlib.Core.Path.{refl, sym, ap, ◌∙◌}
use mathlib.Core.List.{List, ◌++◌, append-nil}
use Rattle.wire.specs.Number.{be}
use Rattle.wire.specs.Output.{overwrite, written}
use Rattle.wire.proofs.OutputLaws.{overwrite_front, overwrite_next}
use Rattle.epmd_messages.proofs.replies.put_alive2_resp.Goals as goal

pub returns-clause-out_after : goal.returns-clause-out_after
returns-clause-out_after g c =
    let o = c.args.out.now in
    let t = be 1 c.args.tag in
    let r = be 1 c.args.res in
    let v = be g.T.BigEndian.WIDTH (g.T.BigEndian.value c.args.creation) in
    let e1 = c.put.ensures ∙ overwrite_front o t in
    let e2 = c.put-2.ensures ∙ ap (λ (l : List ℕ). overwrite l 1 r) e1 ∙ overwrite_next o 1 t r refl in
    let e3 = c.put-3.ensures ∙ ap (λ (l : List ℕ). overwrite l 2 v) e2 ∙ overwrite_next o 2 (t ++ r) v refl in
    e3 ∙ ap (λ (l : List ℕ). written ((t ++ r) ++ l) o) (sym (append-nil v))
