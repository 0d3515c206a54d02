use Rattle.handshake_rules.proofs.MessageLaws.{challenge_size, challenge_written}
use lib.ListN.{length}
use mathlib.Core.Path.{refl}
use native.Mathlib.Omega.{arith}
use Rattle.handshake_messages.proofs.send.send_challenge.Goals as goal

pub returns : goal.returns
returns c =
    let a = c.args in
    let d = a.node in
    let n = d.name.now in record {
      value = omega (arith, challenge_size d.flags a.challenge d.creation n);
      out_after = challenge_written d.flags a.challenge d.creation n a.out.now a.at (length n) (omega (arith, c.requires.0, c.requires.1)) refl
          c.challenge_header-h.ensures c.put_bytes.ensures c.put_bytes-2.ensures;
    }
