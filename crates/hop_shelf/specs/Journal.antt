-- A history with what is read off it.
use Rattle.std.specs.Prelude.{◌≡◌, ℕ, ◌<◌, ◌≤◌, ◌⊎◌, Bool, true, false, ◌&&◌, nat_lt, nat_le, List, [], ◌∷◌, length, filter, Some}
use Rattle.hop_event.specs.declared.event.Event.{Event}
use Rattle.hop_event.specs.declared.event.Event.TheVariants.{Arrive, Ignore, Won, Revoked, Restart, Finish}
use Rattle.hop_event.specs.History.{arrivals, winner}
use Rattle.hop_event.specs.Legal.{restart_due}
use Rattle.hop_event.specs.Coverage.{top_progress, progress_before, first_reached}
use Rattle.hop_cover.specs.Table.{Table, StandsFor}

-- whether the event is an arrival
abbrev pub is_arrival : Event → Bool
is_arrival (Arrive part via) = true
is_arrival (Ignore part via have) = false
is_arrival (Won j b) = false
is_arrival (Revoked j b) = false
is_arrival Restart = false
is_arrival Finish = false

-- what contracts see of a journal
pub record JournalValue : Type 0 where
  pub events : List Event
  pub spare : ℕ
  pub lens : List ℕ
  pub tentative : Bool
  pub restarts : List ℕ
  pub marks : List ℕ
  pub due : List ℕ

-- the marks above one progress and up to another
abbrev pub marks_between : ℕ → ℕ → List ℕ → List ℕ
marks_between before top marks = filter (λ m. nat_lt before m && nat_le m top) marks

-- what is true of every journal
pub record IsRecorded (events : List Event) (table : Table) (restarts : List ℕ) (count : ℕ) (restart : Bool) (before top : ℕ) : Type 0 where
  pub covers : StandsFor table events
  pub counted : count ≡ arrivals events
  pub few : arrivals events ≤ length events
  pub restart_is : restart ≡ restart_due restarts events
  pub top_is : top ≡ top_progress table.tentative table.lens events
  pub cut : (before ≡ top) ⊎ (before ≡ progress_before table.tentative table.lens events)

-- the event was recorded, and the cuts that are due are those of the marks that it first reached
pub record AddsEvent (old : JournalValue) (e : Event) (new : JournalValue) : Type 0 where
  pub events : new.events ≡ e ∷ old.events
  pub lens : new.lens ≡ old.lens
  pub tentative : new.tentative ≡ old.tentative
  pub restarts : new.restarts ≡ old.restarts
  pub marks : new.marks ≡ old.marks
  pub due : new.due ≡ first_reached new.tentative new.lens new.marks new.events

-- a winner is one of 16 attempts
abbrev pub IsWinnerSmall : ℕ → List Event → Type 0
IsWinnerSmall i h = (a : ℕ) → winner i h ≡ Some a → a < 16

-- no events, and the cuts that are due are those of the marks that the empty history reaches
pub record IsBeginning (lens : List ℕ) (tentative : Bool) (restarts marks : List ℕ) (j : JournalValue) : Type 0 where
  pub events : j.events ≡ []
  pub lens_are : j.lens ≡ lens
  pub tentative_is : j.tentative ≡ tentative
  pub restarts_are : j.restarts ≡ restarts
  pub marks_are : j.marks ≡ marks
  pub due : j.due ≡ first_reached tentative lens marks []
