use Prim.Native.Nat.{ℕ, ◌+◌, ◌<◌}
use mathlib.Core.Path.{◌≡◌, ap, subst, ◌∙◌}
use mathlib.Core.List.{List, []}
use native.Mathlib.Omega.{arith}
use lib.ListN.{length, get_or}
use Rattle.wire.specs.Number.{be}
use Rattle.wire.specs.Output.{overwrite}
use Rattle.epmd_rules.specs.declared.registration.Registration.{Registration}
use Rattle.epmd_rules.specs.Registration.{free}
use Rattle.epmd_rules.specs.Registry.{entry_at}
use Rattle.epmd_rules.specs.Replies.{line_of}
use Rattle.epmd_rules.proofs.ReplyLaws.{Sofar, none_sofar, next_sofar, all_sofar}
use Rattle.epmd_state.specs.Bytes.{places, registry_of, entry_by}
use Rattle.epmd_state.proofs.BytesLaws.{here_long, record_here}
use borrow.Author.Rules.{rules}
use Rattle.epmd.proofs.replies.put_names.Goals as goal

pub loop-place-init : goal.loop-place-init
loop-place-init c = record { room = omega arith; sofar = none_sofar (registry_of c.args.state.now).registrations c.put.new.out }

pub loop-place-preserved : goal.loop-place-preserved
unfolding entry_at
loop-place-preserved c =
    let b = c.args.state.now in
    let g = registry_of b in
    let n : length g.registrations ≡ places = here_long b in
    let l = c.loop-place in
    let i = l.place-index in
    let p = c.put_line-at.ensures in
    let k = c.records-place-items.ensures in
    let m : i < places = omega (arith, k.result_len) in
    let h = ap (λ (x : List (List ℕ)). entry_by (get_or x i [])) k.result_value ∙ record_here b i (omega (arith, k.result_len, ap length k.result_value)) in
    let next = next_sofar g.registrations i c.put.new.out l.out l.at free (omega (arith, m, n)) (search rules) l.invariant.sofar in
    record {
      room = omega (arith, l.invariant.room, p.upper_bound);
      sofar =
          record {
            is = p.out_after ∙ ap (λ (x : Registration). overwrite l.out l.at (line_of x)) h ∙ next.is;
            there = p.value ∙ ap (λ (x : Registration). l.at + length (line_of x)) h ∙ next.there;
          };
    }

pub returns : goal.returns
returns c =
    let a = c.args in
    let g = registry_of a.state.now in
    let l = c.loop-place in
    let e : l.place-index ≡ places = omega (arith, c.records-place-items.ensures.result_len) in
    let b = c.put.ensures ∙ ap (λ (p : ℕ). overwrite a.out.now 0 (be 4 p)) c.port.ensures in
    let w = all_sofar g a.out.now c.put.new.out l.out l.at (here_long a.state.now) b
    (subst (λ (i : ℕ). Sofar g.registrations i c.put.new.out l.out l.at) e l.invariant.sofar) in
    record { value = w.0; out_after = w.1 }
