use Prim.Native.Nat.{ℕ}
use mathlib.Core.Path.{◌≡◌, refl, sym, ap, ◌∙◌}
use mathlib.Core.List.{List}
use native.Mathlib.Omega.{arith}
use lib.ListN.{length, drop}
use Rattle.std.specs.Prelude.{Ok}
use Rattle.std.proofs.lemmas.Result.{err_from_is_err_and}
use Rattle.wire.specs.Frame.{body}
use Rattle.wire.specs.Output.{written}
use Rattle.wire.proofs.RunLaws.{rest}
use Rattle.wire.proofs.OutputLaws.{written_none}
use Rattle.epmd_rules.specs.Requests.{room}
use Rattle.epmd_rules.specs.Replies.{port2_reply}
use Rattle.epmd_rules.specs.Serve.{alive2_of, port2_of, names_of}
use Rattle.epmd_rules.proofs.RequestLaws.{request_body, alive2_body_lem}
use Rattle.epmd_rules.proofs.ServeLaws.{call_asked}
use Rattle.epmd_state.specs.Bytes.{registry_of}
use Rattle.epmd.proofs.serve.answer.Goals as goal

pub returns-in_err-asked : goal.returns-in_err-asked
returns-in_err-asked c =
    let a = c.args in
    let e = err_from_is_err_and c.from_residual.result c.from_residual.ensures.1 in
    rw (call_asked (registry_of a.state.now) a.connection a.frame.now room _ (sym c.in_err-asked.ensures), e.1, e.2)
    (record { answer = refl; registry = refl; output = sym (written_none a.out.now) })

pub body_of-body-requires : goal.body_of-body-requires
body_of-body-requires c = (request_body c.args.frame.now room c.in_ok-asked.asked (sym c.in_ok-asked.ensures)).0

pub invariant_of-alive2 : goal.invariant_of-alive2
invariant_of-alive2 c =
    record { held = rw c.body_of-body.ensures (alive2_body_lem c.args.frame.now room (sym c.in_ok-asked.ensures ∙ ap Ok c.in-Alive2.is)) }

pub slice_bounds-put_port2-count : goal.slice_bounds-put_port2-count
slice_bounds-put_port2-count c = omega (arith, ap length c.body_of-body.ensures, (request_body c.args.frame.now room c.in_ok-asked.asked (sym c.in_ok-asked.ensures)).1)

pub slice_bounds-put_port2-start : goal.slice_bounds-put_port2-start
slice_bounds-put_port2-start c = omega (arith, ap length c.body_of-body.ensures, (request_body c.args.frame.now room c.in_ok-asked.asked (sym c.in_ok-asked.ensures)).1)

pub returns-in-Alive2 : goal.returns-in-Alive2
returns-in-Alive2 c =
    let a = c.args in
    let g = registry_of a.state.now in
    let b = c.body_of-body.ensures in
    let w = c.alive2-written.ensures in
    rw (call_asked g a.connection a.frame.now room _ (sym c.in_ok-asked.ensures ∙ ap Ok c.in-Alive2.is))
    (record {
      answer = w.answer ∙ ap (λ (x : List ℕ). (alive2_of g a.connection x).answer) b;
      registry = w.registry ∙ ap (λ (x : List ℕ). (alive2_of g a.connection x).registry) b;
      output = w.output ∙ ap (λ (x : List ℕ). written (alive2_of g a.connection x).bytes a.out.now) b;
    })

pub returns-in-PortPlease2 : goal.returns-in-PortPlease2
unfolding port2_of
returns-in-PortPlease2 c =
    let a = c.args in
    let g = registry_of a.state.now in
    let b : _ ≡ drop 1 (body a.frame.now) = rest 1 c.body_of-body.result.now ∙ ap (drop 1) c.body_of-body.ensures in
    let w = c.put_port2-written.ensures in
    rw (call_asked g a.connection a.frame.now room _ (sym c.in_ok-asked.ensures ∙ ap Ok c.in-PortPlease2.is))
    (record {
      answer = ap Ok (w.value ∙ ap (λ (l : List ℕ). length (port2_reply g l)) b);
      registry = refl;
      output = w.out_after ∙ ap (λ (l : List ℕ). written (port2_reply g l) a.out.now) b;
    })

pub returns-in-Names : goal.returns-in-Names
unfolding names_of
returns-in-Names c =
    let a = c.args in
    let w = c.put_names-written.ensures in
    rw (call_asked (registry_of a.state.now) a.connection a.frame.now room _ (sym c.in_ok-asked.ensures ∙ ap Ok c.in-Names.is))
    (record { answer = ap Ok w.value; registry = refl; output = w.out_after })
