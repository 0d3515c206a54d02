use Rattle.handshake_rules.proofs.MessageLaws.{reply_size, reply_written}
use Rattle.wire.specs.Output.{overwrite}
use borrow.Author.Rules.{rules}
use mathlib.Core.Path.{sym, ap, ◌∙◌}
use Rattle.handshake_messages.proofs.send.send_challenge_reply.Goals as goal

pub returns : goal.returns
returns c =
    let a = c.args in record {
      value = sym (reply_size a.challenge a.digest.now (search rules));
      out_after = reply_written a.challenge a.digest.now a.out.now (search rules) (c.put_bytes.ensures ∙ ap (overwrite a.out.now 0) c.reply_header-h.ensures) c.put_bytes-2.ensures;
    }
