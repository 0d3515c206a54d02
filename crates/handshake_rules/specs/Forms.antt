-- What is asked of a message before its stage's rule: the first byte (4), the length (5), the name (6) and the flags (9).
use Rattle.std.specs.Prelude.{ℕ, ◌+◌, Bool, true, ◌&&◌, not, List, [], ◌∷◌, length, eqb, leb, Ok, Err}
use Rattle.wire.specs.Run.{same_bytes}
use Rattle.wire.specs.Layout.{extent}
use Rattle.wire.specs.Number.{be_at}
use Rattle.names.specs.Full.{full_name}
use Rattle.handshake_rules.specs.declared.refusal.Refusal.TheVariants.{UnknownTag, BadLength, BadName, BadFlags}
use Rattle.handshake_rules.specs.Refusals.{Test, ◌given-if◌}
use Rattle.handshake_rules.specs.Flags.{flag_test, FlagTest}
use Rattle.handshake_rules.specs.Messages.{name_l, challenge_l, reply_l, ack_l, tag_of, name_tag, status_tag, reply_tag, ack_tag, name_flags, name_name, challenge_flags, challenge_name}

-- where something is not tested it is true, and flags are good
pub record Form : Type 0 where
  pub served : Bool
  pub fits : Bool
  pub named : Bool
  pub flags : FlagTest

-- 9, with what the flag test answers
abbrev pub flag_tests : FlagTest → List Test
flag_tests (Ok _) = []
flag_tests (Err w) = BadFlags w given-if true ∷ []

-- in this order
abbrev pub form_tests : Form → List Test
form_tests f =
    UnknownTag given-if not f.served ∷ BadLength given-if not f.fits ∷ BadName given-if not f.named
    ∷ flag_tests f.flags

-- the first two, of a message with a name whose length stands at `at`
abbrev pub head_tests : ℕ → List ℕ → List Test
head_tests at b =
    UnknownTag given-if not (eqb (tag_of b) name_tag) ∷ BadLength given-if not (leb (at + 2 + be_at 2 at b) (length b)) ∷ []

-- a name message. "In both, bytes behind the name are accepted and ignored."
abbrev pub name_form : List ℕ → Form
name_form b =
    record {
      served = eqb (tag_of b) name_tag;
      fits = leb (extent name_l b) (length b);
      named = full_name (name_name b);
      flags = flag_test (name_flags b);
    }

-- a challenge message. "The name must be the one started towards."
abbrev pub challenge_form : List ℕ → List ℕ → Form
challenge_form peer b =
    record {
      served = eqb (tag_of b) name_tag;
      fits = leb (extent challenge_l b) (length b);
      named = full_name (challenge_name b) && same_bytes peer (challenge_name b);
      flags = flag_test (challenge_flags b);
    }

-- a status message, of any length
abbrev pub status_form : List ℕ → Form
status_form b = record { served = eqb (tag_of b) status_tag; fits = true; named = true; flags = Ok tt }

-- a message that is so long and no longer
abbrev pub exact_form : ℕ → ℕ → List ℕ → Form
exact_form tag size b = record { served = eqb (tag_of b) tag; fits = eqb (length b) size; named = true; flags = Ok tt }

abbrev pub reply_form : List ℕ → Form
reply_form b = exact_form reply_tag (extent reply_l b) b

abbrev pub ack_form : List ℕ → Form
ack_form b = exact_form ack_tag (extent ack_l b) b
