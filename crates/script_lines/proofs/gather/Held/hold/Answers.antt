use Prim.Native.Nat.{ℕ, ◌+◌}
use mathlib.Core.Path.{ap, ◌∙◌}
use mathlib.Core.List.{List, ◌++◌}
use lib.ListN.{take}
use borrow.Author.Rules.{rules}
use Rattle.script_lines.specs.Lines.{kept}
use Rattle.script_lines.proofs.TakeLaws.{held_more}
use Rattle.script_lines.proofs.gather.Held.hold.Goals as goal

pub returns : goal.returns
returns c =
    let h = c.self.inside in
    let t = c.args.part.now in
    ap (take (h.len + c.min-n.result)) c.put_bytes.ensures
    ∙ held_more h.bytes t h.len c.self.invariant (search rules) c.min-n.result c.min-n.ensures
    ∙ ap (λ (x : List ℕ). kept (x ++ t)) c.self.view_is
