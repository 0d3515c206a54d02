-- The cases of an input, one call of the iterator after the other.
use Rattle.std.specs.Prelude.{ℕ, ◌≡◌, List, Option, None, IsSomeAnd, MatchOption}
use Rattle.std.specs.List.{slice_range}
use denote.Ref.{Bor}
use Rattle.cases.specs.declared.record.Records.{Records}
use Rattle.cases.specs.Record.{record_at}

-- a call gives the case that is found at the offset, which goes on behind it; or nothing, where none is found
abbrev pub GivesRecord : Records → Option (Bor (List ℕ)) → Records → Type 0
GivesRecord s r t =
    MatchOption r ((record_at s.input.now s.at ≡ None) × (t ≡ s))
    (λ x. (t.input ≡ s.input)
    × IsSomeAnd (record_at s.input.now s.at) (λ p. (x.now ≡ slice_range s.input.now p.start p.end) × (t.at ≡ p.end)))
