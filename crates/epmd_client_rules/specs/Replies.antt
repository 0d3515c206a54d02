-- 02, P1. "the reading of replies 118, 121, 119": what each says. A reply has no length before it: it is all the bytes that came.
use Rattle.std.specs.Prelude.{ℕ, ◌+◌, Bool, cond, ◌||◌, List, [], ◌∷◌, length, eqb, leb, Result, Ok, Err}
use Rattle.wire.specs.Layout.{extent, width, int_at, run_at}
use Rattle.epmd_rules.specs.Messages.{alive2_xresp, alive2_resp, port2_resp, port2_head, port2_error}
use Rattle.epmd_rules.specs.Requests.{Check, ◌else◌, first_refusal, tag}
use Rattle.epmd_client_rules.specs.declared.unreadable.Unreadable.{Unreadable}
use Rattle.epmd_client_rules.specs.declared.unreadable.Unreadable.TheVariants.{WrongTag, WrongLength}
use Rattle.epmd_client_rules.specs.declared.reply.Alive2Reply.{Alive2Reply}
use Rattle.epmd_client_rules.specs.declared.reply.Alive2Reply.TheVariants as alive2
use Rattle.epmd_client_rules.specs.declared.reply.Port2.{Port2}
use Rattle.epmd_client_rules.specs.declared.reply.Port2Reply.{Port2Reply}
use Rattle.epmd_client_rules.specs.declared.reply.Port2Reply.TheVariants as port2

-- "In a reply a wrong tag is 4, then a wrong length (none too) 5": where nothing came there is no tag to look at
abbrev pub reply_checks : (tagged long : Bool) → List ℕ → List (Check Unreadable)
reply_checks tagged long b = (leb 1 (length b) else WrongLength) ∷ (tagged else WrongTag) ∷ (long else WrongLength) ∷ []

-- Result is the second byte of each
abbrev pub result_in : List ℕ → ℕ
result_in b = int_at port2_error 1 b

-- ---- 118 and 121

abbrev pub is_alive2_reply : ℕ → Bool
is_alive2_reply t = eqb t 118 || eqb t 121

-- "118, Result, creation 4 .. 121, Result, short creation 2", whatever Result is
abbrev pub alive2_long : List ℕ → Bool
alive2_long b = eqb (length b) (cond (eqb (tag b) 118) (width alive2_xresp) (width alive2_resp))

-- the creation field
abbrev pub creation_in : List ℕ → ℕ
creation_in b = cond (eqb (tag b) 118) (int_at alive2_xresp 2 b) (int_at alive2_resp 2 b)

-- "any Result above 0 an error told as it stands; the other fields of 118, 121 and 119 are told unexamined"
unfoldable pub alive2_read : List ℕ → Result Alive2Reply Unreadable
alive2_read b =
    first_refusal Err (reply_checks (is_alive2_reply (tag b)) (alive2_long b) b)
    (Ok (cond (eqb (result_in b) 0) (alive2.Registered (tag b) (creation_in b)) (alive2.Failed (tag b) (result_in b))))

-- ---- 119

-- "Found: 119, 0, port 2, type, protocol, highest 2, lowest 2, Nlen 2, name, Elen 2, extra. Not found: 119, 1.", and so any other Result
abbrev pub port2_long : List ℕ → Bool
port2_long b = eqb (length b) (cond (eqb (result_in b) 0) (extent port2_resp b) (width port2_error))

abbrev pub name_in : List ℕ → List ℕ
name_in b = run_at port2_resp 7 b

abbrev pub extra_in : List ℕ → List ℕ
extra_in b = run_at port2_resp 8 b

-- the fields: name and extra by where they lie, behind their lengths (the claim PartsLie)
abbrev pub fields_in : List ℕ → Port2
fields_in b =
    record {
      port = int_at port2_resp 2 b;
      kind = int_at port2_resp 3 b;
      protocol = int_at port2_resp 4 b;
      highest = int_at port2_resp 5 b;
      lowest = int_at port2_resp 6 b;
      name = record { at = width port2_head; len = length (name_in b) };
      extra = record { at = width port2_head + length (name_in b) + 2; len = length (extra_in b) };
    }

unfoldable pub port2_read : List ℕ → Result Port2Reply Unreadable
port2_read b =
    first_refusal Err (reply_checks (eqb (tag b) 119) (port2_long b) b)
    (Ok (cond (eqb (result_in b) 0) (port2.Found (fields_in b)) (port2.Failed (result_in b))))
