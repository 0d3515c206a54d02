-- The handshakes of two real nodes, computed by the definitions. Assumes nothing.
use mathlib.Core.Path.{refl}
use Rattle.wire.specs.Run.{part, same_bytes, count}
use Rattle.wire.specs.Number.{be_at}
use Rattle.wire.specs.Decimal.{digits, decimal}
use Rattle.wire.specs.Frame.{framed, is_frame, body}
use Rattle.wire.specs.Lookup.{first_at}
use Rattle.names.specs.Full.{full_name}
use Rattle.names.specs.Held.{name_of, name_bytes}
use Rattle.md5_digest.specs.Md5.{md5, process, pad, with_bits, compress, add, initial, run, op, ◌<<<◌, block}
use Rattle.handshake_rules.specs.Flags.{flag_test}
use Rattle.handshake_rules.specs.Messages.{name_message, challenge_message, status_message, reply_message, ack_message}
use Rattle.handshake_rules.specs.Cookie.{digest_of, allowed, fit}
use Rattle.handshake_rules.specs.Plans.{settled, render, finished}
use Rattle.handshake_rules.specs.Accepting.{greeting}
use Rattle.handshake_rules.specs.Connecting.{reaction}
use Rattle.handshake_rules.specs.Calls.{new_of, start_of, arrive_of, expected, plan, message_of}
use Rattle.worked.specs.Handshake.{RealHandshake}

pub worked : RealHandshake
unfolding part same_bytes count be_at digits decimal framed is_frame body first_at full_name name_of name_bytes md5 process pad with_bits compress add initial run op ◌<<<◌ block flag_test name_message challenge_message status_message reply_message ack_message digest_of allowed fit settled render finished greeting reaction new_of start_of arrive_of expected plan message_of
worked = record { each = refl; b_holds = refl; a_holds = refl }
