-- When a history may be finished.
use Rattle.std.specs.Prelude.{ℕ, ◌<◌, List, [], ◌∷◌, length, slice_index}
use Rattle.hop_event.specs.Legal.{IsWon, AllSettled}
use Rattle.hop_event.specs.declared.event.Event.{Event}
use Rattle.hop_event.specs.declared.event.Event.TheVariants.{Arrive, Ignore, Won, Revoked, Restart, Finish}
use Rattle.hop_shelf.specs.Journal.{JournalValue}

-- the split's winner is there with all its records, and each other begun attempt is revoked
pub record IsDone (j : JournalValue) (begun : List ℕ) (i : ℕ) : Type 0 where
  pub won : IsWon j.lens j.events i
  pub settled : AllSettled j.events i (slice_index begun i)

abbrev pub AllDone : JournalValue → List ℕ → Type 0
AllDone j begun = (i : ℕ) → i < length j.lens → IsDone j begun i

-- the first split that is not done
pub record IsFirstNotDone (j : JournalValue) (begun : List ℕ) (i : ℕ) : Type 0 where
  pub split : i < length j.lens
  pub before : (k : ℕ) → k < i → IsDone j begun k
  pub here : IsDone j begun i → ⊥

-- an attempt that an event names is below this number of its split
abbrev pub IsBelow : (ℕ → ℕ) → Event → Type 0
IsBelow begun (Arrive part via) = part.attempt < begun part.split
IsBelow begun (Ignore part via have) = part.attempt < begun part.split
IsBelow begun (Won i a) = a < begun i
IsBelow begun (Revoked i a) = a < begun i
IsBelow begun Restart = Unit {0}
IsBelow begun Finish = Unit {0}

-- so is each attempt that the history names
abbrev pub NamesBelow : (ℕ → ℕ) → List Event → Type 0
NamesBelow begun [] = Unit {0}
NamesBelow begun (e ∷ earlier) = IsBelow begun e × NamesBelow begun earlier
