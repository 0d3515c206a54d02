-- 01, What the statements have to decide: lists of calls, and two runs of one list that differ in their cookies. What demand 3 speaks of.
use Rattle.std.specs.Prelude.{ℕ, ◌≡◌, Bool, true, false, cond, ◌&&◌, not, List, [], ◌∷◌, map, length, get_or, leb, ltb, Ok}
use Rattle.std.proofs.Math.Option.{Option, none, some}
use Rattle.wire.specs.Run.{same_bytes}
use Rattle.wire.specs.Output.{written}
use Rattle.handshake_rules.specs.State.{Endpoint}
use Rattle.handshake_rules.specs.Endpoint.{slot_at}
use Rattle.handshake_rules.specs.Cookie.{Cookies, checking, writing, needed, allowed, fit, digest_of}
use Rattle.handshake_rules.specs.Plans.{Done, Writes, plain, reply, ack, Outcome, stop, go, Plan, sure, proven, settled}
use Rattle.handshake_rules.specs.Calls.{room, silent, new_of, start_of, arrive_of, close_of, plan, message_of}

-- ---- one call

-- a call, with all that it is given but cookies; the output bytes are given as values too
pub data Call : Type 0 where
  Start : (name out : List ℕ) → Call
  Arrive : Call
  Close : (slot : ℕ) → Call
  Message : (slot : ℕ) (frame : List ℕ) (challenge : ℕ) (out : List ℕ) → Call

unfoldable pub step : Endpoint → Call → Cookies → Done
step g (Start n out) k = start_of g n (length out)
step g Arrive k = silent (arrive_of g)
step g (Close s) k = silent (close_of g s)
step g (Message s f c out) k = message_of k g s f c (length out)

-- the endpoint after a call
abbrev pub next : Endpoint → Call → Cookies → Endpoint
next g c k = (step g c k).told.endpoint

-- the output that is lent to a call, and what it holds after it
abbrev pub lent : Call → List ℕ
lent (Start n out) = out
lent Arrive = []
lent (Close s) = []
lent (Message s f c out) = out

abbrev pub left : Endpoint → Call → Cookies → List ℕ
left g c k = written (step g c k).bytes (lent c)

-- "A cookie is used by a message on a slot that awaits a challenge, a reply or an acknowledgement, unless that message is refused with 1."
unfoldable pub used : Endpoint → Call → Cookies → List (List ℕ)
used g (Start n out) k = []
used g Arrive k = []
used g (Close s) k = []
used g (Message s f c out) k = cond (ltb (length out) room) [] (needed (slot_at g s).stage (checking k) (writing k))

-- "A digest check is made by a message that comes to the rule of awaits reply or awaits acknowledgement; it passes if the digest read is that of the
-- challenge last sent on this slot, with the call's cookie."
unfoldable pub verdict : List ℕ → Plan → Option Bool
verdict cookie (sure o) = none
verdict cookie (proven c d a) = some (same_bytes d (digest_of c cookie))

unfoldable pub check_of : Endpoint → Call → Cookies → Option Bool
check_of g (Start n out) k = none
check_of g Arrive k = none
check_of g (Close s) k = none
check_of g (Message s f c out) k = verdict (checking k) (plan g s f c (length out) (fit (slot_at g s).stage (checking k) (writing k)))

-- the message that a message call writes
abbrev pub writes_of : Outcome → Writes
writes_of (stop r) = plain []
writes_of (go a) = a.writes

unfoldable pub writes : Endpoint → Call → Cookies → Writes
writes g (Start n out) k = plain []
writes g Arrive k = plain []
writes g (Close s) k = plain []
writes g (Message s f c out) k = writes_of (settled (checking k) (plan g s f c (length out) (fit (slot_at g s).stage (checking k) (writing k))))

-- "The excepted bytes, only in a call that writes them, are output bytes 8 to 23 of a reply and 4 to 19 of an acknowledgement, counted from 1."
-- Here from 0
unfoldable pub excepted : Writes → ℕ → Bool
excepted (plain bs) i = false
excepted (reply ours theirs) i = leb 7 i && ltb i 23
excepted (ack theirs) i = leb 3 i && ltb i 19

-- ---- two runs

-- a call of the list, and the cookies of each run: "only cookies are given for each run apart"
pub record Given : Type 0 where
  pub call : Call
  pub one : Cookies
  pub two : Cookies

-- a call as it comes in the two runs: the endpoint before it in each
pub record Moment : Type 0 where
  pub given : Given
  pub first : Endpoint
  pub second : Endpoint

-- each call gets the endpoint that the one before handed back
unfoldable pub moments : Endpoint → Endpoint → List Given → List Moment
moments g h [] = []
moments g h (c ∷ cs) =
    record { given = c; first = g; second = h } ∷ moments (next g c.call c.one) (next h c.call c.two) cs

-- a digest check passes in one run and fails in the other
abbrev pub differ : Option Bool → Option Bool → Bool
differ none v = false
differ (some b) none = false
differ (some true) (some b) = not b
differ (some false) (some b) = b

unfoldable pub splits : Moment → Bool
splits m = differ (check_of m.first m.given.call m.given.one) (check_of m.second m.given.call m.given.two)

-- the calls before the first that splits the runs, or all if there is none
unfoldable pub before_split : List Moment → List Moment
before_split [] = []
before_split (m ∷ ms) = cond (splits m) [] (m ∷ before_split ms)

abbrev pub All : (Moment → Type 0) → List Moment → Type 0
All P [] = Unit
All P (m ∷ ms) = P m × All P ms

-- the cookie used in a call is of allowed length in both runs or in neither
unfoldable pub Alike : Moment → Type 0
Alike m =
    map allowed (used m.first m.given.call m.given.one) ≡ map allowed (used m.second m.given.call m.given.two)

-- "An answer is all that a call tells", what 9 carries too (02, P3. "Demand 3 covers the new numbers too."). "The gate is compared in all that it holds,
-- each slot's stage too." A byte is excepted where both runs write a digest there
pub record Same (w₁ w₂ : Writes) (d₁ d₂ : Done) (out₁ out₂ : List ℕ) : Type 0 where
  pub answer : d₁.told.answer ≡ d₂.told.answer
  pub endpoint : d₁.told.endpoint ≡ d₂.told.endpoint
  pub size : length out₁ ≡ length out₂
  pub bytes : (i : ℕ) → (excepted w₁ i && excepted w₂ i) ≡ false → get_or out₁ i 0 ≡ get_or out₂ i 0

abbrev pub Agree : Moment → Type 0
Agree m =
    Same (writes m.first m.given.call m.given.one) (writes m.second m.given.call m.given.two)
    (step m.first m.given.call m.given.one) (step m.second m.given.call m.given.two)
    (left m.first m.given.call m.given.one) (left m.second m.given.call m.given.two)

-- ---- one run

pub record Asked : Type 0 where
  pub call : Call
  pub cookies : Cookies

-- the endpoint at its end
unfoldable pub ends : Endpoint → List Asked → Endpoint
ends g [] = g
ends g (a ∷ rest) = ends (next g a.call a.cookies) rest

-- g is what making gives for these arguments
abbrev pub MadeOf : List ℕ → ℕ → ℕ → Endpoint → Type 0
MadeOf n f c g = new_of n f c ≡ record { making = Ok tt; endpoint = g }
