-- The records of texts, but for the long ones.
use Rattle.std.specs.Prelude.{ℕ, Bool, List, length, filter, nat_le}
use Rattle.std.specs.List.{concat}
use Rattle.hop_records.specs.Records.{records_of}

-- a record has at most n bytes
abbrev pub is_within : ℕ → List ℕ → Bool
is_within n line = nat_le (length line) n

-- the records of the joined texts that have at most n bytes; longer ones are left out
abbrev pub records_within : ℕ → List (List ℕ) → List (List ℕ)
records_within n texts = filter (is_within n) (records_of (concat texts))
