-- What is proved of the digest, beside demand 3 and the claims of slots: that it is the one of real nodes. 02, P4: "the public Erlang/OTP code decides".
use Rattle.std.specs.Prelude.{ℕ, ◌≡◌, List, [], ◌∷◌, map}
use Rattle.handshake_rules.specs.Cookie.{digest_of}

-- a digest as it was sent: with which cookie, for which challenge
pub record Sent : Type 0 where
  pub cookie : List ℕ
  pub challenge : ℕ
  pub digest : List ℕ

abbrev pub monster : List ℕ
monster = 0x6d ∷ 0x6f ∷ 0x6e ∷ 0x73 ∷ 0x74 ∷ 0x65 ∷ 0x72 ∷ []

abbrev pub other : List ℕ
other = 0x6f ∷ 0x74 ∷ 0x68 ∷ 0x65 ∷ 0x72 ∷ []

-- what nodes of Erlang/OTP 25 sent (rust/tests/captures; all that was captured is run by the program digest_cases)
abbrev pub seen : List Sent
seen =
    -- hs_01: the reply of the node that called
    record {
      cookie = monster;
      challenge = 1235240785;
      digest = 0x2e ∷ 0x42 ∷ 0x3f ∷ 0x09 ∷ 0x5b ∷ 0x22 ∷ 0x96 ∷ 0x0a ∷ 0x42 ∷ 0x5f ∷ 0x54 ∷ 0xce ∷ 0xb4 ∷ 0x19 ∷ 0x8e ∷ 0x48 ∷ [];
    }
    -- hs_01: the acknowledgement of the node that was called
    ∷ record {
      cookie = monster;
      challenge = 2892019581;
      digest = 0xf8 ∷ 0x69 ∷ 0xdf ∷ 0xa7 ∷ 0x08 ∷ 0x8c ∷ 0xf2 ∷ 0xef ∷ 0x43 ∷ 0x1e ∷ 0x26 ∷ 0x1e ∷ 0xaf ∷ 0x85 ∷ 0x42 ∷ 0x62 ∷ [];
    }
    -- hs_04: the reply of a node with another cookie
    ∷ record {
      cookie = other;
      challenge = 817586774;
      digest = 0x15 ∷ 0x7a ∷ 0x91 ∷ 0x61 ∷ 0xac ∷ 0xf8 ∷ 0x4c ∷ 0x58 ∷ 0xd5 ∷ 0x8e ∷ 0x3e ∷ 0xe5 ∷ 0xd3 ∷ 0x67 ∷ 0xa8 ∷ 0xbf ∷ [];
    }
    -- hs_21: the reply to a challenge of one digit
    ∷ record {
      cookie = monster;
      challenge = 5;
      digest = 0xbf ∷ 0x7e ∷ 0x68 ∷ 0x4c ∷ 0xc1 ∷ 0x67 ∷ 0xb5 ∷ 0x78 ∷ 0x60 ∷ 0xeb ∷ 0x3c ∷ 0x79 ∷ 0xcc ∷ 0x6f ∷ 0xfd ∷ 0x60 ∷ [];
    }
    ∷ []

-- the definition gives each of them (RealDigests.real_digests)
abbrev pub RealDigests : Type 0
RealDigests = map (λ s. digest_of s.challenge s.cookie) seen ≡ map (λ s. s.digest) seen
