use Rattle.handshake_rules.proofs.MessageLaws.{name_size, name_written}
use lib.ListN.{length}
use mathlib.Core.Path.{refl}
use native.Mathlib.Omega.{arith}
use Rattle.handshake_messages.proofs.send.send_name.Goals as goal

pub returns : goal.returns
returns c =
    let a = c.args in
    let d = a.node in
    let n = d.name.now in record {
      value = omega (arith, name_size d.flags d.creation n);
      out_after = name_written d.flags d.creation n a.out.now (length n) refl c.name_header-h.ensures c.put_bytes.ensures c.put_bytes-2.ensures;
    }
