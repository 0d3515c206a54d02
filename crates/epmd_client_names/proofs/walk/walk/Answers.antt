use mathlib.Core.Path.{◌≡◌, refl, sym, ◌∙◌, subst}
use Rattle.std.specs.Prelude.{Option, IsSome}
use Rattle.epmd_client_rules.specs.declared.reply.LineAt.{LineAt}
use Rattle.epmd_client_rules.specs.Readings.{most, no_line}
use Rattle.epmd_client_names.specs.declared.text.Tail.{Tail}
use native.Mathlib.Omega.{arith}
use lib.ListN.{replicate, length-set}
use Rattle.epmd_client_names.proofs.WalkLaws.{Sofar, sofar_some, sofar_first, sofar_start, sofar_word, sofar_line, sofar_next, sofar_end}
use Rattle.epmd_client_names.proofs.walk.walk.Goals as goal

pub loop-i-init : goal.loop-i-init
loop-i-init c =
    let a = c.args in
    let lead = c.requires.lead in
    let e = c.default-lines.ensures in
    let none : no_line ≡ c.default-lines.result = λ i. record { at = sym e.0 i; len = sym e.1.0 i; port = sym e.1.1 i } in
    (refl, subst (λ (x : LineAt). Sofar a.s.now a.count (replicate most x) 0 0) none (sofar_start a.s.now a.count lead.0 lead.1))

pub first_len-requires : goal.first_len-requires
first_len-requires c =
    let a = c.args in
    let pre = c.requires in
    let l = c.loop-i in
    let v = sofar_word a.s.now a.count l.lines l.p l.i l.invariant.1 c.loop-i-test.true in
    record {
      begun = record { place = record { room = pre.room; inside = v.1; rows = λ j h k. pre.rows j (omega arith) k }; word = v.0 };
      high = omega (arith, pre.high);
    }

pub unwrap-n-requires : goal.unwrap-n-requires
unwrap-n-requires c =
    let a = c.args in
    let l = c.loop-i in
    sofar_some a.s.now a.count l.lines l.p l.i l.invariant.1 c.loop-i-test.true c.first_len.result c.first_len.ensures

pub tail_at-requires : goal.tail_at-requires
tail_at-requires c =
    let a = c.args in
    let l = c.loop-i in
    let f = l.invariant.1 in
    let n = c.unwrap-n.result in
    let first = sofar_first a.s.now a.count l.lines l.p l.i f c.loop-i-test.true c.first_len.result n c.unwrap-n.ensures c.first_len.ensures in
    let w = sofar_line a.s.now a.count l.lines l.p l.i f c.loop-i-test.true n first in
    (omega (arith, w.inside), c.requires.room.fits)

pub unwrap-tail-requires : goal.unwrap-tail-requires
unwrap-tail-requires c =
    let a = c.args in
    let l = c.loop-i in
    let f = l.invariant.1 in
    let n = c.unwrap-n.result in
    let first = sofar_first a.s.now a.count l.lines l.p l.i f c.loop-i-test.true c.first_len.result n c.unwrap-n.ensures c.first_len.ensures in
    let w = sofar_line a.s.now a.count l.lines l.p l.i f c.loop-i-test.true n first in
    subst (λ (o : Option Tail). IsSome o) (sym (c.tail_at.ensures ∙ w.tail)) refl

pub loop-i-preserved : goal.loop-i-preserved
loop-i-preserved c =
    let a = c.args in
    let l = c.loop-i in
    let f = l.invariant.1 in
    let n = c.unwrap-n.result in
    let t = c.unwrap-tail.result in
    let first = sofar_first a.s.now a.count l.lines l.p l.i f c.loop-i-test.true c.first_len.result n c.unwrap-n.ensures c.first_len.ensures in (
      length-set l.lines l.i _ ∙ l.invariant.0,
      sofar_next a.s.now a.count l.lines l.p l.i f c.loop-i-test.true n t.port t.next (omega (arith, c.requires.high)) first
          (sym c.tail_at.ensures ∙ c.unwrap-tail.ensures),
    )

pub returns : goal.returns
returns c =
    let a = c.args in
    let l = c.loop-i in
    λ x q. sofar_end a.s.now a.count l.lines l.p l.i l.invariant.1 (omega arith) x q
