use Rattle.handshake_rules.proofs.MessageLaws.{ack_size, ack_written}
use borrow.Author.Rules.{rules}
use mathlib.Core.Path.{sym}
use Rattle.handshake_messages.proofs.send.send_challenge_ack.Goals as goal

pub returns : goal.returns
returns c =
    let a = c.args in record {
      value = sym (ack_size a.digest.now (search rules));
      out_after = ack_written a.digest.now a.out.now (search rules) c.put_bytes.ensures c.put_bytes-2.ensures;
    }
