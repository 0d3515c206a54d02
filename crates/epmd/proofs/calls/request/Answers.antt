use mathlib.Core.Path.{refl, sym}
use native.Mathlib.Omega.{arith}
use lib.ListN.{length, drop, length-append, length-drop}
use Rattle.wire.proofs.OutputLaws.{written_none}
use Rattle.epmd_rules.specs.Requests.{room}
use Rattle.epmd_rules.proofs.RequestLaws.{no_room}
use Rattle.epmd_rules.proofs.ServeLaws.{call_asked}
use Rattle.epmd_state.specs.Bytes.{registry_of}
use Rattle.epmd.proofs.RoomLaws.{does_all}
use Rattle.epmd.proofs.calls.request.Goals as goal

pub returns-in-Some : goal.returns-in-Some
returns-in-Some c =
    let a = c.args in
    let f = c.in-Some.ensures.cases in
    does_all (registry_of a.state.now) a.connection a.frame.now _ _ _ _ a.out.now f.enough f.same (omega (arith, length-append c.answer.new.out (drop room a.out.now), length-drop room a.out.now, f.enough)) c.answer.ensures

pub returns-in-None : goal.returns-in-None
returns-in-None c =
    let a = c.args in
    rw (call_asked (registry_of a.state.now) a.connection a.frame.now _ _ (no_room a.frame.now (length a.out.now) c.in-None.ensures.cases))
    (record { answer = refl; registry = refl; output = sym (written_none a.out.now) })
