-- 02, P3, worked by hand: what a caller sees of flags. Proved together (Flags.worked).
use Rattle.std.specs.Prelude.{ℕ, ◌≡◌, List, [], ◌∷◌, map}
use Rattle.handshake_rules.specs.declared.refusal.Why.{Why}
use Rattle.handshake_rules.specs.State.{Endpoint}
use Rattle.handshake_rules.specs.Answers.{making_why, numbers_of}
use Rattle.handshake_rules.specs.Messages.{name_message, challenge_message, status_message, ok}
use Rattle.handshake_rules.specs.Cookie.{Cookies, cookies}
use Rattle.handshake_rules.specs.Plans.{Done}
use Rattle.handshake_rules.specs.Calls.{room, new_of, start_of, arrive_of, message_of}
use Rattle.worked.specs.Frames.{a_at_b, b_at_a}

-- ---- the calls that test flags, each as its caller sees it

-- making an endpoint with them
abbrev pub made : ℕ → Why
made f = making_why (new_of a_at_b f 7).making

-- the endpoint of b@a, and a message on its slot 0
abbrev pub ours : Endpoint
ours = (new_of b_at_a 0x403000104 7).endpoint

abbrev pub cookie : Cookies
cookie = cookies [] (0x63 ∷ [])

abbrev pub message : Endpoint → List ℕ → Done
message g frame = message_of cookie g 0 frame 5 room

-- a@b has come in, and its name message brings them
abbrev pub named : ℕ → Why
named f = (numbers_of (message (arrive_of ours).endpoint (name_message f 7 a_at_b)).told.answer).why

-- we have started towards a@b, it has said ok, and its challenge brings them
abbrev pub awaiting : Endpoint
awaiting = (message (start_of ours a_at_b room).told.endpoint (status_message ok)).told.endpoint

abbrev pub challenged : ℕ → Why
challenged f = (numbers_of (message awaiting (challenge_message f 5 7 a_at_b)).told.answer).why

-- ---- the cases

pub record Case : Type 0 where
  pub flags : ℕ
  pub paper : Why

-- taken, or refused with 9: how many required bits are missing and the lowest of them, or 0 and 33
abbrev pub taken : ℕ → Case
taken f = record { flags = f; paper = record { number = 0; missing = 0; lowest = 0 } }

abbrev pub refused : ℕ → ℕ → ℕ → Case
refused f missing lowest = record { flags = f; paper = record { number = 9; missing = missing; lowest = lowest } }

abbrev pub cases : List Case
cases =
    -- the required bits alone
    taken 0x403000104
    -- each of them missing: 2, 8, 24, 25, 34
    ∷ refused 0x403000100 1 2
    ∷ refused 0x403000004 1 8
    ∷ refused 0x402000104 1 24
    ∷ refused 0x401000104 1 25
    ∷ refused 0x003000104 1 34
    -- all five; the base's three bits without the two new ones
    ∷ refused 0 5 2
    ∷ refused 0x1000104 2 25
    -- bit 33 alone too many; and with 34 missing, which is told
    ∷ refused 0x603000104 0 33
    ∷ refused 0x203000104 1 34
    -- every bit above 34; every bit but 33; every bit
    ∷ taken 0xfffffffc03000104
    ∷ taken 0xfffffffdffffffff
    ∷ refused 0xffffffffffffffff 0 33
    ∷ []

-- wherever the flags come from, a caller sees what the paper says (Flags.worked)
abbrev pub Worked : (ℕ → Why) → Type 0
Worked told = map (λ c. told c.flags) cases ≡ map (λ c. c.paper) cases

pub record Everywhere : Type 0 where
  pub making : Worked made
  pub name : Worked named
  pub challenge : Worked challenged
