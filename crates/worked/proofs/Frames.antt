-- 01's frames C1 to C9, computed by the definitions. Assumes nothing.
use mathlib.Core.Path.{refl}
use Rattle.wire.specs.Run.{part, same_bytes, order}
use Rattle.wire.specs.Number.{be_at}
use Rattle.wire.specs.Decimal.{digits, decimal}
use Rattle.wire.specs.Frame.{framed, is_frame, body}
use Rattle.wire.specs.Lookup.{first_at}
use Rattle.names.specs.Utf8.{lead, run, utf8}
use Rattle.names.specs.Node.{lacks, node_name}
use Rattle.names.specs.Held.{name_of, name_bytes}
use Rattle.epmd_rules.specs.Registration.{extra_of, extra_bytes, free, is_free, has_name, has_connection}
use Rattle.epmd_rules.specs.Registry.{fresh, new_of, by_name, by_connection, lowest_free, stepped, filled, entry_at}
use Rattle.epmd_rules.specs.Requests.{is_withheld, versions_ok, examine_of}
use Rattle.epmd_rules.specs.Replies.{alive2_reply, port2_found, port2_reply}
use Rattle.epmd_rules.specs.Serve.{result_of, registration_of, alive2_of, port2_of, request_of}
use Rattle.handshake_rules.specs.Messages.{name_message, status_message}
use Rattle.worked.specs.Frames.{Worked}

pub worked : Worked
unfolding part same_bytes order be_at digits decimal framed is_frame body first_at lead run utf8 lacks node_name name_of name_bytes extra_of extra_bytes free is_free has_name has_connection fresh new_of by_name by_connection lowest_free stepped filled entry_at is_withheld versions_ok examine_of alive2_reply port2_found port2_reply result_of registration_of alive2_of port2_of request_of name_message status_message
worked = refl
