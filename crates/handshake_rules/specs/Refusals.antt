-- 01, Numbers that a refused caller sees: the numbers, what each does with the slot named, and how the first of several tests decides.
use Rattle.std.specs.Prelude.{ℕ, Bool, true, false, cond, List, [], ◌∷◌, Ok, Err, Result}
use Rattle.handshake_rules.specs.declared.refusal.Refusal.{Refusal}
use Rattle.handshake_rules.specs.declared.refusal.Refusal.TheVariants.{OutputTooShort, SlotNotTaken, NotAFrame, UnknownTag, BadLength, BadName, BadFlags, AlreadyConnected, BadCookie, PeerTaken, NoFreeSlot, UnknownStatus, WrongDigest, Declined}
use Rattle.handshake_rules.specs.declared.refusal.Why.{Why}
use Rattle.handshake_rules.specs.declared.flags.FlagFlaw.{FlagFlaw}
use Rattle.handshake_rules.specs.Flags.{flaw_count, flaw_bit}

infix 70 ◌given-if◌
-- a number that nothing is told beside; 0 is that of no refusal
abbrev pub only : ℕ → Why
only n = record { number = n; missing = 0; lowest = 0 }

-- 02, P3. "Every call that gives 9 carries this on."
abbrev pub of_flags : FlagFlaw → Why
of_flags w = record { number = 9; missing = flaw_count w; lowest = flaw_bit w }

-- the table's first column, and what is told beside it
abbrev pub why_of : Refusal → Why
why_of OutputTooShort = only 1
why_of SlotNotTaken = only 2
why_of NotAFrame = only 3
why_of UnknownTag = only 4
why_of BadLength = only 5
why_of BadName = only 6
why_of (BadFlags w) = of_flags w
why_of AlreadyConnected = only 10
why_of BadCookie = only 11
why_of PeerTaken = only 12
why_of NoFreeSlot = only 13
why_of UnknownStatus = only 14
why_of WrongDigest = only 15
why_of Declined = only 16

-- "Keep" changes nothing; "free" frees the slot named.
pub data Fate : Type 0 where
  keep free : Fate

-- the table's last column, for a message. In start, arrive and close every refusal keeps; making gives no endpoint
abbrev pub message_fate : Refusal → Fate
message_fate OutputTooShort = keep
message_fate SlotNotTaken = keep
message_fate NotAFrame = free
message_fate UnknownTag = free
message_fate BadLength = free
message_fate BadName = free
message_fate (BadFlags w) = free
message_fate AlreadyConnected = keep
message_fate BadCookie = keep
message_fate PeerTaken = keep
message_fate NoFreeSlot = keep
message_fate UnknownStatus = free
message_fate WrongDigest = free
message_fate Declined = free

abbrev pub is_free : Fate → Bool
is_free keep = false
is_free free = true

-- a refusal, given if its test holds
pub data Test : Type 0 where
  ◌given-if◌ : Refusal → Bool → Test

-- what a list of tests comes to: none holds, or the first that does
abbrev pub Check : Type 0
Check = Result Unit Refusal

-- the first refusal whose test holds; an order of refusals is a list of tests
abbrev pub checked : List Test → Check
checked [] = Ok tt
checked ((r given-if b) ∷ ts) = cond b (Err r) (checked ts)

-- what is due, unless a check refuses
abbrev pub unless : {A : Type 0} → (Refusal → A) → A → Check → A
unless stop due (Ok _) = due
unless stop due (Err r) = stop r
