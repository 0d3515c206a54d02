use Rattle.handshake_rules.proofs.StageLaws.{form_refused}
use Rattle.handshake_rules.specs.Connecting.{expect_ack}
use Rattle.handshake_rules.specs.Endpoint.{slot_at}
use mathlib.Core.List.{[]}
use Rattle.handshake_state.specs.Bytes.{endpoint_of}
use Rattle.handshake_connecting.proofs.connecting.recv_challenge_ack.Goals as goal

pub returns-in-Err : goal.returns-in-Err
returns-in-Err c =
    let a = c.args in
    let g = endpoint_of a.state.now in
    (form_refused g a.at (expect_ack (slot_at g a.at) a.body.now) c.check_exact.ensures c.in-Err.is c.refuse.ensures [] a.cookie.bytes.now).0
