use Rattle.handshake_rules.proofs.MessageLaws.{status_size, status_written}
use native.Mathlib.Omega.{arith}
use Rattle.handshake_messages.proofs.send.send_status.Goals as goal

pub returns : goal.returns
returns c =
    let a = c.args in record {
      value = omega (arith, status_size a.word.now);
      out_after = status_written a.word.now a.out.now c.status_header-h.ensures c.put_bytes.ensures c.put_bytes-2.ensures;
    }
