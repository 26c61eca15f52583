-- Lanes and locks of which nothing was done.
use Rattle.std.specs.Prelude.{◌≡◌, ℕ, ◌<◌, ◌/◌, ◌%◌, false, List, [], length, map, All, Option, Some}
use Rattle.std.specs.List.{slice_get, range_with_len}
use Rattle.hop_machine.specs.step.Steps.{Setup, Value, Kept}
use Rattle.hop_machine.specs.actors.ReducerTurns.{marks_due}
use Rattle.hop_inner.specs.Lines.{Key}
use Rattle.hop_lane.specs.PlainLanes.{Lane}

-- a lane is here that has this key, and of which nothing was sent or taken
pub record IsUnusedLane {T : Type 0} (key : Key) (o : Option (Lane T)) : Type 0 where
  pub lane : Lane T
  pub here : o ≡ Some lane
  pub key_is : lane.key ≡ key
  pub taken : lane.taken ≡ []
  pub held : lane.held ≡ []
  pub fulls : lane.fulls ≡ 0
  pub nones : lane.nones ≡ 0

-- each lane of the list is unused, and is that from one mapper to one reducer, of whom there are so many: those of a mapper stand together
abbrev pub AreUnusedLanes : {T : Type 0} → List ℕ → ℕ → List (Lane T) → Type 0
AreUnusedLanes board reducers lanes = (i : ℕ) → i < length lanes → IsUnusedLane (record { mapper = i / reducers; reducer = i % reducers; board = board }) (slice_get lanes i)

-- so is each cut lane, that of one reducer
abbrev pub AreUnusedCutLanes : {T : Type 0} → List ℕ → List (Lane T) → Type 0
AreUnusedCutLanes board lanes = (i : ℕ) → i < length lanes → IsUnusedLane (record { mapper = 0; reducer = i; board = board }) (slice_get lanes i)

-- a value of the empty history, whose cuts are still to be sent
abbrev pub first_value : Setup → Value
first_value setup = record { events = []; due = marks_due setup [] }

-- the values of a run of which nothing is recorded, in the order of their numbers
pub record AreFirst (setup : Setup) {V : Type 0} (value : V → Value) (number : V → ℕ) (values : List V) : Type 0 where
  pub values_are : All (λ v. value v ≡ first_value setup) values
  pub numbers_are : map number values ≡ range_with_len 0 (length values)

-- what its recorder's end shows of such a value
abbrev pub first_kept : Setup → Kept
first_kept setup = record { events = []; due = marks_due setup []; held = false; busy = 0 }
