use Prim.Native.Nat.{ℕ}
use mathlib.Core.Path.{◌≡◌, refl, sym, ap, ap₂, ◌∙◌}
use native.Mathlib.Omega.{arith}
use lib.ListN.{length}
use Rattle.std.specs.Prelude.{Ok}
use Rattle.wire.specs.Output.{written}
use Rattle.epmd_rules.specs.Registry.{filled}
use Rattle.epmd_rules.specs.Replies.{alive2_reply}
use Rattle.epmd_rules.specs.Serve.{registration_of, result_of}
use Rattle.epmd_rules.proofs.ServeLaws.{alive2_fails, alive2_fills, result_admits}
use Rattle.epmd_state.specs.Bytes.{registry_of}
use Rattle.epmd.specs.declared.result.Denied.{Denied}
use Rattle.epmd.specs.declared.result.Denied.TheVariants.{NameInUse, ConnectionRegistered, NoPlace}
use Rattle.epmd.specs.Result.{denied_number}
use Rattle.epmd.proofs.serve.alive2.Goals as goal

denied_some : (w : Denied) → denied_number w ≡ 0 → ⊥
denied_some NameInUse e = omega arith
denied_some ConnectionRegistered e = omega arith
denied_some NoPlace e = omega arith

pub fill-requires : goal.fill-requires
fill-requires c =
    let a = c.args in
    let p = c.in-Ok.ensures.place in
    let m = result_admits (registry_of a.state.now) a.connection c.name.result.now (sym c.in-Ok.ensures.number) in
    (p, omega (arith, p, m.room), c.next-creation.ensures)

pub returns-in-Ok : goal.returns-in-Ok
returns-in-Ok c =
    let a = c.args in
    let g = registry_of a.state.now in
    let k = c.in-Ok.ensures.number ∙ ap (result_of g a.connection) c.name.ensures in
    let m = c.next-creation.ensures in
    let h = c.highest-highest.ensures in
    let w = c.put_alive2_reply.ensures in
    rw (alive2_fills g a.connection a.asked.now.body.now 0 k refl)
    (record {
      answer = ap Ok (w.value ∙ ap₂ (λ (n i : ℕ). length (alive2_reply n 0 i)) h m);
      registry = c.fill.ensures ∙ ap (filled g) (c.registration-registration.ensures ∙ ap (λ (i : ℕ). registration_of a.connection i a.asked.now.body.now) m);
      output = w.out_after ∙ ap₂ (λ (n i : ℕ). written (alive2_reply n 0 i) a.out.now) h m;
    })

pub returns-in-Err : goal.returns-in-Err
returns-in-Err c =
    let a = c.args in
    let g = registry_of a.state.now in
    let k = c.in-Err.ensures.number ∙ ap (result_of g a.connection) c.name.ensures in
    let h = c.highest-highest.ensures in
    let w = c.put_alive2_reply-in-Err.ensures in
    rw (alive2_fails g a.connection a.asked.now.body.now (denied_number c.in-Err.why) k (denied_some c.in-Err.why))
    (record {
      answer = ap Ok (w.value ∙ ap₂ (λ (n r : ℕ). length (alive2_reply n r 0)) h c.number.ensures);
      registry = refl;
      output = w.out_after ∙ ap₂ (λ (n r : ℕ). written (alive2_reply n r 0) a.out.now) h c.number.ensures;
    })
