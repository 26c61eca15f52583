-- What is read off a history. Its last event stands first.
use Rattle.std.specs.Prelude.{ℕ, ◌+◌, Bool, false, ◌==◌, ◌&&◌, ◌||◌, if◌then◌else◌, Option, Some, None, List, [], ◌∷◌}
use Rattle.hop_event.specs.declared.event.Event.{Event}
use Rattle.hop_event.specs.declared.event.Event.TheVariants.{Arrive, Ignore, Won, Revoked, Restart, Finish}

pub record HistoryValue : Type 0 where
  pub events : List Event
  pub spare : ℕ

-- whether these name one attempt
abbrev pub same_attempt : ℕ → ℕ → ℕ → ℕ → Bool
same_attempt j b i a = (j == i) && (b == a)

-- the records that are there of an attempt
abbrev pub upto : ℕ → ℕ → List Event → ℕ
upto i a [] = 0
upto i a (Arrive part via ∷ earlier) = if same_attempt part.split part.attempt i a then part.to else upto i a earlier
upto i a (Revoked j b ∷ earlier) = if same_attempt j b i a then 0 else upto i a earlier
upto i a (Restart ∷ earlier) = 0
upto i a (Ignore part via have ∷ earlier) = upto i a earlier
upto i a (Won j b ∷ earlier) = upto i a earlier
upto i a (Finish ∷ earlier) = upto i a earlier

-- the attempt that won the split
abbrev pub winner : ℕ → List Event → Option ℕ
winner i [] = None
winner i (Won j b ∷ earlier) = if j == i then Some b else winner i earlier
winner i (Arrive part via ∷ earlier) = winner i earlier
winner i (Ignore part via have ∷ earlier) = winner i earlier
winner i (Revoked j b ∷ earlier) = winner i earlier
winner i (Restart ∷ earlier) = winner i earlier
winner i (Finish ∷ earlier) = winner i earlier

-- whether the attempt was revoked
abbrev pub is_revoked : ℕ → ℕ → List Event → Bool
is_revoked i a [] = false
is_revoked i a (Revoked j b ∷ earlier) = same_attempt j b i a || is_revoked i a earlier
is_revoked i a (Arrive part via ∷ earlier) = is_revoked i a earlier
is_revoked i a (Ignore part via have ∷ earlier) = is_revoked i a earlier
is_revoked i a (Won j b ∷ earlier) = is_revoked i a earlier
is_revoked i a (Restart ∷ earlier) = is_revoked i a earlier
is_revoked i a (Finish ∷ earlier) = is_revoked i a earlier

-- how many ranges arrived
abbrev pub arrivals : List Event → ℕ
arrivals [] = 0
arrivals (Arrive part via ∷ earlier) = arrivals earlier + 1
arrivals (Ignore part via have ∷ earlier) = arrivals earlier
arrivals (Won j b ∷ earlier) = arrivals earlier
arrivals (Revoked j b ∷ earlier) = arrivals earlier
arrivals (Restart ∷ earlier) = arrivals earlier
arrivals (Finish ∷ earlier) = arrivals earlier
