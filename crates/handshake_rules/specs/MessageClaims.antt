-- What is proved of the messages: what is written is read back (proofs/ReadBack).
use Rattle.std.specs.Prelude.{ℕ, ◌+◌, ◌^◌, ◌≤◌, ◌<◌, ◌≡◌, true, List, ◌++◌, length, take, drop, Ok}
use Rattle.wire.specs.Number.{be_at}
use Rattle.wire.specs.Frame.{framed, is_frame, body}
use Rattle.names.specs.Full.{full_name}
use Rattle.handshake_rules.specs.Refusals.{checked}
use Rattle.handshake_rules.specs.Flags.{good_flags}
use Rattle.handshake_rules.specs.Messages.{name_message, challenge_message, status_message, reply_message, ack_message, name_flags, name_creation, name_name, challenge_flags, challenge_challenge, challenge_creation, challenge_name, status_word, reply_challenge, reply_digest, ack_digest}
use Rattle.handshake_rules.specs.Forms.{Form, form_tests, name_form, challenge_form, status_form, reply_form, ack_form}

-- a frame whose body passes these tests
pub record Passes (frame : List ℕ) (form : Form) : Type 0 where
  pub whole : is_frame frame ≡ true
  pub passes : checked (form_tests form) ≡ Ok tt

pub record NameBack (f c : ℕ) (n w : List ℕ) : Type 0 where
  pub passes : Passes w (name_form (body w))
  pub flags : name_flags (body w) ≡ f
  pub creation : name_creation (body w) ≡ c
  pub name : name_name (body w) ≡ n

abbrev pub NameReadBack : Type 0
NameReadBack =
    (f c : ℕ) (n : List ℕ) → f < 256 ^ 8 → c < 256 ^ 4 → full_name n ≡ true → good_flags f ≡ true → NameBack f c n (name_message f c n)

pub record ChallengeBack (f h c : ℕ) (n w : List ℕ) : Type 0 where
  pub passes : Passes w (challenge_form n (body w))
  pub flags : challenge_flags (body w) ≡ f
  pub challenge : challenge_challenge (body w) ≡ h
  pub creation : challenge_creation (body w) ≡ c
  pub name : challenge_name (body w) ≡ n

abbrev pub ChallengeReadBack : Type 0
ChallengeReadBack =
    (f h c : ℕ) (n : List ℕ) → f < 256 ^ 8 → h < 256 ^ 4 → c < 256 ^ 4 → full_name n ≡ true → good_flags f ≡ true
    → ChallengeBack f h c n (challenge_message f h c n)

abbrev pub StatusReadBack : Type 0
StatusReadBack =
    (word : List ℕ) → length word ≤ 65534 → Passes (status_message word) (status_form (body (status_message word))) × (status_word (body (status_message word)) ≡ word)

pub record ReplyBack (c : ℕ) (d w : List ℕ) : Type 0 where
  pub passes : Passes w (reply_form (body w))
  pub challenge : reply_challenge (body w) ≡ c
  pub digest : reply_digest (body w) ≡ d

abbrev pub ReplyReadBack : Type 0
ReplyReadBack = (c : ℕ) (d : List ℕ) → c < 256 ^ 4 → length d ≡ 16 → ReplyBack c d (reply_message c d)

abbrev pub AckReadBack : Type 0
AckReadBack = (d : List ℕ) → length d ≡ 16 → Passes (ack_message d) (ack_form (body (ack_message d))) × (ack_digest (body (ack_message d)) ≡ d)

-- an output that begins with a frame splits behind it: its length is told by its first two bytes (ReadBack.frame_splits)
pub record Split (bs rest out : List ℕ) : Type 0 where
  pub told : be_at 2 0 out ≡ length bs
  pub first : take (2 + be_at 2 0 out) out ≡ framed bs
  pub behind : drop (2 + be_at 2 0 out) out ≡ rest

abbrev pub FrameSplits : Type 0
FrameSplits = (bs rest : List ℕ) → length bs ≤ 65535 → Split bs rest (framed bs ++ rest)
