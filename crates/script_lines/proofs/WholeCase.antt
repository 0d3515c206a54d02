-- 01's whole case, computed from the definitions. Assumes nothing.
use mathlib.Core.Path.{refl}
use Rattle.wire.specs.Decimal.{digits, decimal}
use Rattle.wire.specs.Frame.{is_frame, body}
use Rattle.wire.specs.Number.{be_at}
use Rattle.wire.specs.Run.{part, same_bytes}
use Rattle.names.specs.Held.{name_of, name_bytes}
use Rattle.epmd_rules.specs.Registration.{extra_of, free, is_free}
use Rattle.epmd_rules.specs.Registry.{fresh, new_of}
use Rattle.epmd_rules.specs.Replies.{name_lines, names_reply}
use Rattle.epmd_rules.specs.Replies as replies
use Rattle.epmd_rules.specs.Requests.{is_withheld, examine_body, examine_of}
use Rattle.epmd_rules.specs.Serve.{names_of, request_of}
use Rattle.script_lines.specs.Text.{digit_value, all_digits, is_hex, unhex, digit_char, hex_of, leads_zero, is_decimal}
use Rattle.script_lines.specs.Line.{starts_with, conn_item, hex_item, item_of}
use Rattle.script_lines.specs.Answer.{answer_text}
use Rattle.script_lines.specs.Script.{line_of, end_of, started}
use Rattle.script_lines.specs.Lines.{lines_from, printed_from, printed}
use Rattle.script_lines.specs.Claims.{WholeCase}

pub whole_case : WholeCase
unfolding digits decimal is_frame body be_at part same_bytes name_of name_bytes extra_of free is_free fresh new_of name_lines names_reply replies.line_of is_withheld examine_body examine_of names_of request_of digit_value all_digits is_hex unhex digit_char hex_of leads_zero is_decimal starts_with conn_item hex_item item_of answer_text line_of end_of started lines_from printed_from printed
whole_case = (refl, refl)
