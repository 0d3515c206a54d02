use Prim.Native.Nat.{ℕ, ◌+◌, ◌*◌, ◌-◌}
use mathlib.Core.Path.{◌≡◌, sym, ap, ◌∙◌}
use native.Mathlib.Omega.{arith}
use Rattle.epmd_client_names.specs.Text.{closed_at, port_from}
use Rattle.epmd_client_names.proofs.TextLaws.{from_go, port_some}
use Rattle.epmd_client_names.proofs.PortLaws.{digit_sound}
use Rattle.epmd_client_names.proofs.text.port_at.Goals as goal

pub loop-j-init : goal.loop-j-init
loop-j-init c =
    let a = c.args in
    let v = c.in_ok-v.v in
    let e = sym c.digit_at.ensures ∙ c.in_ok-v.was in
    let k : 4 ≡ a.i + 5 - (a.i + 1) = omega arith in
    (omega (arith, (digit_sound a.s.now a.i v e).1), port_some a.s.now a.i v e ∙ ap (λ (k : ℕ). port_from k a.s.now (a.i + 1) v) k)

pub loop-j-preserved : goal.loop-j-preserved
loop-j-preserved c =
    let a = c.args in
    let l = c.loop-j in
    let d = c.in-Some.d in
    let e = sym c.digit_at-in-loop-j.ensures ∙ c.in-Some.is in
    let k : a.i + 5 - l.j - 1 ≡ a.i + 5 - (l.j + 1) = omega arith in (
      omega (arith, (digit_sound a.s.now l.j d e).1),
      l.invariant.1 ∙ from_go a.s.now l.j l.v d e (λ z. omega (arith, z)) (a.i + 5 - l.j) (omega arith) c.if-v-gt6553.false
          ∙ ap (λ (m : ℕ). port_from m a.s.now (l.j + 1) (l.v * 10 + d)) k,
    )

pub returns : goal.returns
unfolding port_from
returns c =
    let a = c.args in
    let l = c.loop-j in
    let q : a.i + 5 ≡ l.j = omega arith in
    let z : a.i + 5 - l.j ≡ 0 = omega arith in
    c.closed-2.ensures ∙ ap (λ (j : ℕ). closed_at a.s.now j l.v) q ∙ sym (l.invariant.1 ∙ ap (λ (k : ℕ). port_from k a.s.now l.j l.v) z)
