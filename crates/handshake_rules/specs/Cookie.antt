-- 01, The gate: cookies and the digest.
use Rattle.std.specs.Prelude.{ℕ, Bool, true, ◌&&◌, List, [], ◌∷◌, ◌++◌, map, length, leb}
use Rattle.wire.specs.Decimal.{decimal}
use Rattle.md5_digest.specs.Md5.{md5}
use Rattle.handshake_rules.specs.declared.endpoint.Stage.{Stage}
use Rattle.handshake_rules.specs.declared.endpoint.Stage.TheVariants.{Free, AwaitsName, AwaitsAlive, AwaitsReply, AwaitsStatus, AwaitsChallenge, AwaitsAck, Connected}

-- 02, P4: "MD5 of the cookie bytes followed by the decimal challenge text"; 01: "decimal text without leading zeros"
unfoldable pub digest_of : ℕ → List ℕ → List ℕ
digest_of challenge cookie = md5 (cookie ++ decimal challenge)

-- the cookies that are lent with a call: the peer's own, and the default
pub record Cookies : Type 0 where
  pub own : List ℕ
  pub standard : List ℕ

abbrev pub cookies : List ℕ → List ℕ → Cookies
cookies own standard = record { own = own; standard = standard }

-- "the peer's own cookie if it has any bytes, otherwise the default"
abbrev pub chosen : List ℕ → List ℕ → List ℕ
chosen [] standard = standard
chosen (b ∷ bs) standard = b ∷ bs

-- "The base uses one cookie in both directions": the one with which a digest is checked, and the one with which it is written
abbrev pub checking : Cookies → List ℕ
checking k = chosen k.own k.standard

abbrev pub writing : Cookies → List ℕ
writing k = chosen k.own k.standard

-- "11 is tested only where a challenge to us, a reply or an acknowledgement is awaited": the cookies that a message needs
abbrev pub needed : Stage → (check write : List ℕ) → List (List ℕ)
needed Free check write = []
needed AwaitsName check write = []
needed AwaitsAlive check write = []
needed AwaitsReply check write = check ∷ []
needed AwaitsStatus check write = []
needed AwaitsChallenge check write = write ∷ []
needed AwaitsAck check write = check ∷ []
needed Connected check write = []

-- "Allowed: 1 to 255 bytes."
unfoldable pub allowed : List ℕ → Bool
allowed k = leb 1 (length k) && leb (length k) 255

abbrev pub every : List Bool → Bool
every [] = true
every (b ∷ bs) = b && every bs

unfoldable pub fit : Stage → (check write : List ℕ) → Bool
fit st check write = every (map allowed (needed st check write))
