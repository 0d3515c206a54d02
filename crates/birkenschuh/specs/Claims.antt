-- What crosses is what the answers tell: every slot that is told is below 32, or 32 for none, so 32 bits and `slot_number` lose nothing.
use Rattle.std.specs.Prelude.{ℕ, ◌≡◌, List, Result}
use Rattle.handshake_rules.specs.State.{Endpoint}
use Rattle.handshake_rules.specs.declared.endpoint.Answer.{Answer}
use Rattle.handshake_rules.specs.declared.refusal.Refusal.{Refusal}
use Rattle.handshake_rules.specs.Answers.{numbers_of}
use Rattle.handshake_rules.specs.Cookie.{Cookies}
use Rattle.handshake_rules.specs.Calls.{start_of, arrive_of, close_of, message_of}
use Rattle.birkenschuh.specs.Endpoint.{slot_number}

abbrev pub CrossesWhole : Result Answer Refusal → Type 0
CrossesWhole x = (slot_number (numbers_of x).slot ≡ (numbers_of x).slot) × (slot_number (numbers_of x).freed ≡ (numbers_of x).freed)

pub record Promises : Type 0 where
  pub started : (g : Endpoint) (n : List ℕ) (size : ℕ) → CrossesWhole (start_of g n size).told.answer
  pub arrived : (g : Endpoint) → CrossesWhole (arrive_of g).answer
  pub closed : (g : Endpoint) (s : ℕ) → CrossesWhole (close_of g s).answer
  pub answered : (k : Cookies) (g : Endpoint) (s : ℕ) (f : List ℕ) (c size : ℕ) → CrossesWhole (message_of k g s f c size).told.answer
