use Prim.Native.Nat.{◌+◌}
use mathlib.Core.Path.{◌≡◌, sym, ap, ◌∙◌, subst}
use lib.ListN.{get_or}
use Rattle.epmd_client_names.specs.declared.tally.Tally.{Tally}
use Rattle.epmd_client_names.specs.declared.tally.Tally.TheVariants.{Nothing}
use Rattle.epmd_client_names.specs.Tallies.{Means}
use Rattle.epmd_client_names.specs.Survey.{Exact}
use native.Mathlib.Omega.{arith}
use Rattle.names.specs.Node.{node_name}
use Rattle.epmd_client_names.specs.Text.{found, tail_at}
use Rattle.epmd_client_names.proofs.PortLaws.{tail_sound}
use Rattle.epmd_client_names.proofs.SurveyLaws.{one_more}
use Rattle.epmd_client_names.proofs.survey.through.Goals as goal

pub offset_bounds-tallies-next : goal.offset_bounds-tallies-next
offset_bounds-tallies-next c =
    let a = c.args in
    let h = tail_sound a.s.now (a.p + 5 + a.n) c.in-Some.field-0.port c.in-Some.field-0.next (sym c.tail_at.ensures ∙ c.in-Some.is) in
    omega (arith, h.inside, c.in-Some.next-is, c.requires.begun.place.room.fits)

pub bounds-tallies-next : goal.bounds-tallies-next
bounds-tallies-next c =
    let a = c.args in
    let h = tail_sound a.s.now (a.p + 5 + a.n) c.in-Some.field-0.port c.in-Some.field-0.next (sym c.tail_at.ensures ∙ c.in-Some.is) in
    omega (arith, h.inside, c.in-Some.next-is, c.requires.begun.place.room.long)

pub returns-then-is_node_name : goal.returns-then-is_node_name
returns-then-is_node_name c =
    let a = c.args in
    let place = c.requires.begun.place in
    let port = c.in-Some.field-0.port in
    let next = c.in-Some.field-0.next in
    let t : tail_at a.s.now (a.p + 5 + a.n) ≡ found port next = sym c.tail_at.ensures ∙ c.in-Some.is in
    let h = tail_sound a.s.now (a.p + 5 + a.n) port next t in
    let named = ap node_name (sym c.get_part.ensures) ∙ sym c.is_node_name.ensures ∙ c.if-is_node_name.true in
    let row = place.rows next (omega (arith, h.behind)) h.inside in
    subst (λ (u : Tally). Means (Exact a.s.now a.p a.n) u) (sym c.longer.ensures)
    (one_more a.s.now a.p a.n (omega (arith, place.inside)) port next c.requires.begun.word t named (get_or a.tallies.now next Nothing) row)
