use mathlib.Core.Path.{◌∙◌, ap, ap₂}
use Prim.Native.Nat.{ℕ}
use mathlib.Core.List.{List}
use lib.ListN.{length}
use Rattle.wire.proofs.RunLaws.{part_length}
use Rattle.names.specs.Held.{held_of}
use Rattle.epmd_rules.specs.Registration.{held_extra}
use Rattle.epmd_state.specs.Bytes.{entry_by}
use borrow.Author.Rules.{rules}
use Rattle.epmd_state.proofs.entry.entry_of.Goals as goal

pub held-name-requires : goal.held-name-requires
held-name-requires c = ap length c.get_part.ensures ∙ part_length 1 255 c.args.place.now (search rules)

pub held-extra-requires : goal.held-extra-requires
held-extra-requires c = ap length c.get_part-2.ensures ∙ part_length 257 128 c.args.place.now (search rules)

pub returns : goal.returns
unfolding entry_by
returns c =
    let n = c.held-name.ensures ∙ ap₂ (λ (x : List ℕ) (n : ℕ). held_of x n) c.get_part.ensures c.get.ensures in
    let e = c.held-extra.ensures ∙ ap₂ (λ (x : List ℕ) (n : ℕ). held_extra x n) c.get_part-2.ensures c.get-2.ensures in
    let e4 = c.kind.ensures in
    let e5 = c.protocol.ensures in
    let e6 = c.port.ensures in
    let e7 = c.highest.ensures in
    let e8 = c.lowest.ensures in
    let e9 = c.connection.ensures in
    let e10 = c.creation.ensures in
    λ i. record { name = n i; extra = e i; kind = e4 i; protocol = e5 i; port = e6 i; highest = e7 i; lowest = e8 i; connection = e9 i; creation = e10 i }
