-- 01, The mapper. "A registry holds its own port number (0 to 65,535), the next creation (1 to 4,294,967,295, given at the start; 0 is refused
-- with 17) and 64 places."
use Rattle.std.specs.Prelude.{ℕ, ◌+◌, true, false, cond, List, get_or, set, replicate, eqb, ltb, Ok, Err}
use Rattle.wire.specs.Lookup.{first_at}
use Rattle.epmd_rules.specs.declared.refusal.Refusal.TheVariants.{ZeroCreation}
use Rattle.epmd_rules.specs.declared.registration.Registration.{Registration}
use Rattle.epmd_rules.specs.State.{Registry, Made, Closed}
use Rattle.epmd_rules.specs.Registration.{free, is_free, has_name, has_connection}

-- ---- making

unfoldable pub fresh : ℕ → ℕ → Registry
fresh port next = record { port = port; next = next; registrations = replicate 64 free }

-- beside a refusal stands the registry of port 0 and first creation 1, which nobody is to use
unfoldable pub new_of : ℕ → ℕ → Made
new_of port first =
    cond (eqb first 0)
    (record { making = Err ZeroCreation; registry = fresh 0 1 })
    (record { making = Ok tt; registry = fresh port first })

-- ---- look-up: an index below 64, or 64

unfoldable pub by_name : Registry → List ℕ → ℕ
by_name r name = first_at (has_name name) r.registrations

unfoldable pub by_connection : Registry → ℕ → ℕ
by_connection r c = first_at (has_connection c) r.registrations

unfoldable pub lowest_free : Registry → ℕ
lowest_free r = first_at is_free r.registrations

-- a registration by its index; past the end there is none
unfoldable pub entry_at : Registry → ℕ → Registration
entry_at r i = get_or r.registrations i free

-- ---- creation: "that number steps by one, 4,294,967,295 to 1"
unfoldable pub stepped : ℕ → ℕ
stepped c = cond (eqb c 4294967295) 1 (c + 1)

-- "the lowest free place is filled with the next creation, and that number steps by one"
unfoldable pub filled : Registry → Registration → Registry
filled r p = record { port = r.port; next = stepped r.next; registrations = set r.registrations (lowest_free r) p }

-- ---- "Close of a connection number frees its place and says so, or says that there was none."
unfoldable pub close_of : Registry → ℕ → Closed
close_of r c =
    cond (ltb (by_connection r c) 64)
    (record { registry = record { port = r.port; next = r.next; registrations = set r.registrations (by_connection r c) free }; freed = true })
    (record { registry = r; freed = false })
