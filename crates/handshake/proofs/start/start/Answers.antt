use Rattle.std.specs.Prelude.{Ok}
use Rattle.std.proofs.lemmas.Result.{err_from_is_err_and}
use Rattle.handshake_rules.proofs.StageLaws.{settle, start_refused, start_begun, may_start}
use Rattle.handshake_rules.specs.Messages.{name_message}
use Rattle.handshake_rules.specs.Calls.{opened, name_out, start_of, begun, silent, kept}
use Rattle.handshake_rules.specs.Endpoint.{put, lowest_free}
use Rattle.handshake_rules.specs.declared.endpoint.Answer.TheVariants.{Begun}
use Rattle.handshake_rules.specs.declared.endpoint.Stage.TheVariants.{AwaitsStatus}
use Rattle.wire.proofs.OutputLaws.{written_none}
use Rattle.wire.specs.Output.{written}
use lib.ListN.{length}
use Prim.Native.Nat.{ℕ}
use mathlib.Core.List.{List}
use mathlib.Core.Path.{◌≡◌, refl, sym, ap, ◌∙◌}
use Rattle.handshake_state.specs.Bytes.{endpoint_of}
use Rattle.handshake.proofs.start.start.Goals as goal

pub returns-in_err-at : goal.returns-in_err-at
returns-in_err-at c =
    let a = c.args in
    let g = endpoint_of a.state.now in
    let n = length a.out.now in
    let r = c.in_err-at.field-0.0 in
    let p = err_from_is_err_and c.from_residual.result c.from_residual.ensures.1 in
    rw (p.1, p.2)
    (settle (start_of g a.name.now n) (silent (kept g r)) (start_refused g a.name.now n r c.in_err-at.ensures) a.out.now refl (sym (written_none a.out.now)))

pub of-requires : goal.of-requires
of-requires c =
    let a = c.args in
    (may_start (endpoint_of a.state.now) a.name.now (length a.out.now) c.in_ok-at.ensures.0).1

pub returns : goal.returns
returns c =
    let a = c.args in
    let g = endpoint_of a.state.now in
    let n = length a.out.now in
    let f : c.in_ok-at.at ≡ lowest_free g = c.in_ok-at.ensures.1 in
    let d = c.own.result in
    let o = c.own.ensures in
    let m : name_message d.flags d.creation d.name.now ≡ name_out g = λ i. name_message (o.flags i) (o.creation i) (o.name i) in
    let k : c.send_name-count.result ≡ length (name_out g) = c.send_name-count.ensures.value ∙ ap length m in
    let of = c.of.ensures in
    let free = c.default.ensures in
    let p : endpoint_of c.put_slot.new.state ≡ put g (lowest_free g) (opened AwaitsStatus a.name.now) =
    c.put_slot.ensures
    ∙ λ i. put g (f i) (record { stage = AwaitsStatus; name = of i; flags = (free i).flags; creation = (free i).creation; challenge = (free i).challenge }) in
    settle (start_of g a.name.now n) (begun g a.name.now) (start_begun g a.name.now n c.in_ok-at.ensures.0) a.out.now
    (λ i. record { answer = Ok (Begun (f i) (k i)); endpoint = p i }) (c.send_name-count.ensures.out_after ∙ ap (λ (x : List ℕ). written x a.out.now) m)
