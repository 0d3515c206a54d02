-- P3's cases, computed by the definitions. Assumes nothing.
use mathlib.Core.Path.{refl}
use Rattle.wire.specs.Run.{part, same_bytes, count}
use Rattle.wire.specs.Number.{be_at}
use Rattle.wire.specs.Frame.{framed, is_frame, body}
use Rattle.wire.specs.Lookup.{first_at}
use Rattle.names.specs.Full.{full_name}
use Rattle.names.specs.Held.{name_of, name_bytes}
use Rattle.handshake_rules.specs.Flags.{flag_test}
use Rattle.handshake_rules.specs.Messages.{name_message, challenge_message, status_message}
use Rattle.handshake_rules.specs.Cookie.{allowed, fit}
use Rattle.handshake_rules.specs.Plans.{settled, finished}
use Rattle.handshake_rules.specs.Accepting.{greeting}
use Rattle.handshake_rules.specs.Connecting.{reaction}
use Rattle.handshake_rules.specs.Calls.{new_of, start_of, arrive_of, expected, plan, message_of}
use Rattle.worked.specs.Flags.{Everywhere}

pub worked : Everywhere
unfolding part same_bytes count be_at framed is_frame body first_at full_name name_of name_bytes flag_test name_message challenge_message status_message allowed fit settled finished greeting reaction new_of start_of arrive_of expected plan message_of
worked = record { making = refl; name = refl; challenge = refl }
