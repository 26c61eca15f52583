-- Counters that stay at their greatest value, and lists of the calls that fail.
use Rattle.std.specs.Prelude.{ℕ, ◌+◌, ◌-◌, ◌^◌, min, Bool, ◌==◌, if◌then◌else◌, List}
use Rattle.std.specs.List.{list_any}

-- one more, but for a count at its greatest value
abbrev pub one_more : ℕ → ℕ
one_more count = min (count + 1) (2 ^ 64 - 1)

-- the call after so many calls is one of those that fail, where the first call has the number 1
abbrev pub fails_after : ℕ → List ℕ → Bool
fails_after calls fails = list_any (λ number. number == one_more calls) fails

-- a count of faults after a call: one more where the call fails
abbrev pub counted : Bool → ℕ → ℕ
counted fails count = if fails then one_more count else count
