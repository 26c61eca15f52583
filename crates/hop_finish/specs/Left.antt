-- The shelves of reducers when a run is over.
use Rattle.std.specs.Prelude.{◌≡◌, ℕ, ◌<◌, true, false, List, map}
use Rattle.std.specs.List.{range_with_len}
use Rattle.hop_event.specs.declared.event.Event.{Event}
use Rattle.hop_event.specs.Legal.{AllWon}
use Rattle.hop_shelf.specs.Sound.{ShelfValue}
use Rattle.hop_machine.specs.step.Steps.{Deeds, KeepEnd}
use Rattle.hop_machine.specs.home.Said.{history_of}

-- a shelf's number and its history
abbrev pub numbered_history : ShelfValue → ℕ × List Event
numbered_history s = (s.p, s.journal.events)

-- those of reducer p, by what the recorder's end of its lock did
abbrev pub recorded : Deeds → ℕ → ℕ × List Event
recorded d p = (p, history_of d p)

-- of so many reducers
abbrev pub recorded_of : Deeds → ℕ → List (ℕ × List Event)
recorded_of d reducers = map (recorded d) (range_with_len 0 reducers)

-- the value under the reducer's lock can be had: its recorder's end is there, and nobody holds it
pub record IsFree (d : Deeds) (p : ℕ) : Type 0 where
  pub end : d.ends.has (KeepEnd p) ≡ true
  pub free : (d.did.keeps p).held ≡ false

-- each split's winner is there whole in the history of each of so many reducers
abbrev pub EachWon : List ℕ → Deeds → ℕ → Type 0
EachWon lens d reducers = (p : ℕ) → p < reducers → AllWon lens (history_of d p)
