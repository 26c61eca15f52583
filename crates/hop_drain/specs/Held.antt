-- The value that a reducer holds.
use Rattle.std.specs.Prelude.{◌≡◌, ℕ, ◌≤◌, true, List, [], ◌∷◌}
use Rattle.hop_event.specs.declared.event.Event.{Event}
use Rattle.hop_shelf.specs.Cuts.{AreDue}
use Rattle.hop_shelf.specs.Sound.{ShelfValue}
use Rattle.hop_machine.specs.step.Steps.{Deeds}

-- it is the value of lock p, with the history that was found
pub record IsHeld (p : ℕ) (s : ShelfValue) (d : Deeds) : Type 0 where
  pub number : s.p ≡ p
  pub held : (d.did.keeps p).held ≡ true
  pub events : s.journal.events ≡ (d.did.keeps p).events

-- it is the value of lock p, with one event more than was found, and the cuts that it makes due are due
pub record IsAdded (p : ℕ) (s : ShelfValue) (d : Deeds) : Type 0 where
  pub number : s.p ≡ p
  pub held : (d.did.keeps p).held ≡ true
  pub event : Event
  pub events : s.journal.events ≡ event ∷ (d.did.keeps p).events
  pub due : AreDue s.journal

-- there is room for one event, and no cut is due
pub record IsReady (s : ShelfValue) : Type 0 where
  pub spare : 1 ≤ s.journal.spare
  pub room : 1 ≤ s.room
  pub no_cut : s.journal.due ≡ []

-- the value with these marks due
abbrev pub with_due : List ℕ → ShelfValue → ShelfValue
with_due due s = record s { journal = record s.journal { due = due } }
