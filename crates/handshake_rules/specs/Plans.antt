-- A message is first PLANNED, of which a cookie decides nothing but whether it is of allowed length; the plan is then SETTLED by the digest check,
-- if it has one; and what is settled is FINISHED, which writes the digest of a reply or an acknowledgement.
use Rattle.std.specs.Prelude.{ℕ, Bool, true, false, List, [], length, Ok, Err}
use Rattle.wire.specs.Run.{same_bytes}
use Rattle.names.specs.Held.{name_bytes}
use Rattle.handshake_rules.specs.declared.refusal.Refusal.{Refusal}
use Rattle.handshake_rules.specs.declared.refusal.Refusal.TheVariants.{WrongDigest}
use Rattle.handshake_rules.specs.declared.endpoint.Stage.{Stage}
use Rattle.handshake_rules.specs.declared.endpoint.Slot.{Slot}
use Rattle.handshake_rules.specs.State.{Endpoint, Freed}
use Rattle.handshake_rules.specs.declared.endpoint.Answer.TheVariants.{Answered}
use Rattle.handshake_rules.specs.State.{Told}
use Rattle.handshake_rules.specs.Refusals.{Fate, keep, free, message_fate, checked, unless}
use Rattle.handshake_rules.specs.Endpoint.{put, freed, free_other}
use Rattle.handshake_rules.specs.Forms.{Form, form_tests}
use Rattle.handshake_rules.specs.Messages.{challenge_message, reply_message, ack_message}
use Rattle.handshake_rules.specs.Cookie.{digest_of}

-- all that a call comes to: its answer with the endpoint, and the bytes that it writes, from the first output byte on
pub record Done : Type 0 where
  pub told : Told
  pub bytes : List ℕ

-- ---- plans

-- what a message call writes. Only the digest of a reply or an acknowledgement depends on a cookie
pub data Writes : Type 0 where
  plain : List ℕ → Writes
  reply : (ours theirs : ℕ) → Writes
  ack : (theirs : ℕ) → Writes

-- what is done: the slot's new record, the other slot that is freed, and what is written
pub record Act : Type 0 where
  pub slot : Slot
  pub other : Freed
  pub writes : Writes

pub data Outcome : Type 0 where
  stop : Refusal → Outcome
  go : Act → Outcome

-- `proven c d a`: a if d is the digest of the challenge c, and 15 if it is not
pub data Plan : Type 0 where
  sure : Outcome → Plan
  proven : (challenge : ℕ) (digest : List ℕ) → Act → Plan

abbrev pub does : Slot → Freed → List ℕ → Plan
does sl other bs = sure (go (record { slot = sl; other = other; writes = plain bs }))

abbrev pub fails : Refusal → Plan
fails r = sure (stop r)

-- what a stage expects of a message, and its rule
pub record Expected : Type 0 where
  pub form : Form
  pub rule : Plan

-- 4, 5, 6, 9, "then the stage's rule"
abbrev pub stage_plan : Expected → Plan
stage_plan e = unless fails e.rule (checked (form_tests e.form))

-- ---- settled and finished

abbrev pub judged : Bool → Act → Outcome
judged true a = go a
judged false a = stop WrongDigest

unfoldable pub settled : List ℕ → Plan → Outcome
settled cookie (sure o) = o
settled cookie (proven c d a) = judged (same_bytes d (digest_of c cookie)) a

unfoldable pub render : List ℕ → Writes → List ℕ
render cookie (plain bs) = bs
render cookie (reply ours theirs) = reply_message ours (digest_of theirs cookie)
render cookie (ack theirs) = ack_message (digest_of theirs cookie)

abbrev pub spared : Endpoint → ℕ → Fate → Endpoint
spared g s keep = g
spared g s free = freed g s

-- "Every refusal writes no output." It keeps everything, or frees the slot named
abbrev pub refused : Endpoint → ℕ → Refusal → Done
refused g s r = record { told = record { answer = Err r; endpoint = spared g s (message_fate r) }; bytes = [] }

-- "message [tells the count written] also the slot's new stage and any other slot it freed"
abbrev pub answers : Endpoint → ℕ → Slot → Freed → ℕ → Told
answers g s sl other count = record { answer = Ok (Answered sl.stage other count); endpoint = put g s sl }

abbrev pub answered : Endpoint → ℕ → Slot → Freed → List ℕ → Done
answered g s sl other bs = record { told = answers (free_other g other) s sl other (length bs); bytes = bs }

unfoldable pub finished : List ℕ → Endpoint → ℕ → Outcome → Done
finished cookie g s (stop r) = refused g s r
finished cookie g s (go a) = answered g s a.slot a.other (render cookie a.writes)

-- with the cookie to check by and the cookie to write by
abbrev pub concluded : List ℕ → List ℕ → Endpoint → ℕ → Plan → Done
concluded check write g s p = finished write g s (settled check p)

-- ---- a slot's next record

-- at another stage, with the challenge that is sent; and without
abbrev pub sent : Slot → Stage → ℕ → Slot
sent sl st c = record { stage = st; name = sl.name; flags = sl.flags; creation = sl.creation; challenge = c }

abbrev pub moved : Slot → Stage → Slot
moved sl st = sent sl st sl.challenge

-- our challenge message
abbrev pub challenge_of : Endpoint → ℕ → List ℕ
challenge_of g c = challenge_message g.flags c g.creation (name_bytes g.name)
