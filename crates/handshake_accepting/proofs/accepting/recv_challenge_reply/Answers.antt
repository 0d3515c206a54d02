use Rattle.handshake_rules.proofs.StageLaws.{form_refused}
use Rattle.handshake_rules.specs.Accepting.{expect_reply}
use Rattle.handshake_rules.specs.Endpoint.{slot_at}
use Rattle.handshake_state.specs.Bytes.{endpoint_of}
use Rattle.handshake_accepting.proofs.accepting.recv_challenge_reply.Goals as goal

pub returns-in-Err : goal.returns-in-Err
returns-in-Err c =
    let a = c.args in
    let g = endpoint_of a.state.now in
    form_refused g a.at (expect_reply g (slot_at g a.at) a.body.now) c.check_exact.ensures c.in-Err.is c.refuse.ensures a.out.now a.cookie.bytes.now
