-- 01's and 02's number and values for each answer of a reader: a refusal is its number, and 0 is none.
use Rattle.std.specs.Prelude.{ℕ, Result, Ok, Err, replicate}
use Rattle.epmd_client_rules.specs.declared.unreadable.Unreadable.{Unreadable}
use Rattle.epmd_client_rules.specs.declared.unreadable.Unreadable.TheVariants.{WrongTag, WrongLength, Ambiguous}
use Rattle.epmd_client_rules.specs.declared.reply.Alive2Reply.{Alive2Reply}
use Rattle.epmd_client_rules.specs.declared.reply.Alive2Reply.TheVariants as alive2
use Rattle.epmd_client_rules.specs.declared.reply.Port2.{Port2}
use Rattle.epmd_client_rules.specs.declared.reply.Port2Reply.{Port2Reply}
use Rattle.epmd_client_rules.specs.declared.reply.Port2Reply.TheVariants as port2
use Rattle.epmd_client_rules.specs.declared.reply.NamesReply.{NamesReply}
use Rattle.epmd_client_rules.specs.declared.numbers.Alive2Numbers.{Alive2Numbers}
use Rattle.epmd_client_rules.specs.declared.numbers.Port2Numbers.{Port2Numbers}
use Rattle.epmd_client_rules.specs.declared.numbers.NamesNumbers.{NamesNumbers}
use Rattle.epmd_client_rules.specs.Readings.{most, no_line}

-- "In a reply a wrong tag is 4, then a wrong length (none too) 5 .. One readable in more than one way .. is refused with a new number 20"
abbrev pub unreadable_number : Unreadable → ℕ
unreadable_number WrongTag = 4
unreadable_number WrongLength = 5
unreadable_number Ambiguous = 20

abbrev pub alive2_numbers : Result Alive2Reply Unreadable → Alive2Numbers
alive2_numbers (Err why) = record { refusal = unreadable_number why; tag = 0; result = 0; creation = 0 }
alive2_numbers (Ok (alive2.Failed tag result)) = record { refusal = 0; tag = tag; result = result; creation = 0 }
alive2_numbers (Ok (alive2.Registered tag creation)) = record { refusal = 0; tag = tag; result = 0; creation = creation }

-- no field is told beside a refusal, or beside a Result above 0
abbrev pub no_fields : ℕ → ℕ → Port2Numbers
no_fields refusal result =
    record {
      refusal = refusal;
      result = result;
      port = 0;
      highest = 0;
      lowest = 0;
      kind = 0;
      protocol = 0;
      name = record { at = 0; len = 0 };
      extra = record { at = 0; len = 0 };
    }

abbrev pub field_numbers : Port2 → Port2Numbers
field_numbers p =
    record {
      refusal = 0;
      result = 0;
      port = p.port;
      highest = p.highest;
      lowest = p.lowest;
      kind = p.kind;
      protocol = p.protocol;
      name = p.name;
      extra = p.extra;
    }

abbrev pub port2_numbers : Result Port2Reply Unreadable → Port2Numbers
port2_numbers (Err why) = no_fields (unreadable_number why) 0
port2_numbers (Ok (port2.Failed result)) = no_fields 0 result
port2_numbers (Ok (port2.Found p)) = field_numbers p

abbrev pub listing_number : Result NamesReply Unreadable → ℕ
listing_number (Ok r) = 0
listing_number (Err why) = unreadable_number why

-- all zero beside a refusal
abbrev pub names_numbers : Result NamesReply Unreadable → NamesNumbers
names_numbers (Err why) = record { refusal = listing_number (Err why); port = 0; count = 0; line = replicate most no_line }
names_numbers (Ok r) = record { refusal = listing_number (Ok r); port = r.port; count = r.count; line = r.lines }
