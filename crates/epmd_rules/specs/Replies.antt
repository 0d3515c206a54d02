-- The replies: which bytes a request is answered with.
use Rattle.std.specs.Prelude.{ℕ, ◌+◌, ◌%◌, cond, List, [], ◌∷◌, ◌++◌, eqb, leb, ltb}
use Rattle.wire.specs.Number.{be}
use Rattle.wire.specs.Decimal.{decimal}
use Rattle.wire.specs.Layout.{int, run, encode}
use Rattle.names.specs.Held.{name_bytes}
use Rattle.epmd_rules.specs.declared.registration.Registration.{Registration}
use Rattle.epmd_rules.specs.State.{Registry}
use Rattle.epmd_rules.specs.Messages.{alive2_xresp, alive2_resp, port2_resp, port2_error}
use Rattle.epmd_rules.specs.Registration.{is_free, extra_bytes}
use Rattle.epmd_rules.specs.Registry.{by_name, entry_at}

-- ---- ALIVE2

-- "short creation 2, which is 1 + (creation mod 3) (house)"
abbrev pub short_creation : ℕ → ℕ
short_creation c = 1 + c % 3

-- P2: "The creation field is 0 with each"
abbrev pub creation_field : ℕ → ℕ → ℕ
creation_field result c = cond (eqb result 0) c 0

-- "Reply, if highest ≥ 6: 118, Result, creation 4. Else: 121, Result, short creation 2"
unfoldable pub alive2_reply : ℕ → ℕ → ℕ → List ℕ
alive2_reply highest result c =
    cond (leb 6 highest)
    (encode alive2_xresp (int 118 ∷ int result ∷ int (creation_field result c) ∷ []))
    (encode alive2_resp (int 121 ∷ int result ∷ int (creation_field result (short_creation c)) ∷ []))

-- ---- PORT_PLEASE2

-- "Found: 119, 0, port 2, type, protocol, highest 2, lowest 2, Nlen 2, name, Elen 2, extra."
abbrev pub port2_with : (port kind protocol highest lowest : ℕ) (name extra : List ℕ) → List ℕ
port2_with port kind protocol highest lowest name extra =
    encode port2_resp (int 119 ∷ int 0 ∷ int port ∷ int kind ∷ int protocol ∷ int highest ∷ int lowest ∷ run name ∷ run extra ∷ [])

unfoldable pub port2_found : Registration → List ℕ
port2_found p = port2_with p.port p.kind p.protocol p.highest p.lowest (name_bytes p.name) (extra_bytes p.extra)

-- "Not found: 119, 1."
abbrev pub port2_missing : List ℕ
port2_missing = encode port2_error (int 119 ∷ int 1 ∷ [])

abbrev pub port2_by : ℕ → Registration → List ℕ
port2_by at p = cond (ltb at 64) (port2_found p) port2_missing

-- the reply to one question, of which a batch has many
unfoldable pub port2_reply : Registry → List ℕ → List ℕ
port2_reply r name = port2_by (by_name r name) (entry_at r (by_name r name))

-- ---- NAMES

-- "name "
abbrev pub name_word : List ℕ
name_word = 110 ∷ 97 ∷ 109 ∷ 101 ∷ 32 ∷ []

-- " at port "
abbrev pub port_word : List ℕ
port_word = 32 ∷ 97 ∷ 116 ∷ 32 ∷ 112 ∷ 111 ∷ 114 ∷ 116 ∷ 32 ∷ []

-- "the text `name N at port P` and a newline, P in decimal without leading zeros"
unfoldable pub line_with : (name : List ℕ) (port : ℕ) → List ℕ
line_with name port = name_word ++ (name ++ (port_word ++ (decimal port ++ (10 ∷ []))))

abbrev pub name_line : Registration → List ℕ
name_line p = line_with (name_bytes p.name) p.port

-- "for each taken place": a free one has no line
unfoldable pub line_of : Registration → List ℕ
line_of p = cond (is_free p) [] (name_line p)

-- "in place order"
unfoldable pub name_lines : List Registration → List ℕ
name_lines [] = []
name_lines (p ∷ ps) = line_of p ++ name_lines ps

-- "Reply: own port in 4 bytes, then for each taken place .."
unfoldable pub names_reply : Registry → List ℕ
names_reply r = be 4 r.port ++ name_lines r.registrations
