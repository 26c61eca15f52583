-- What the recorder's end of a lock shows.
use Rattle.std.specs.Prelude.{◌≡◌, ℕ, Bool, false, List, ◌⊎◌, ◌∷◌}
use Rattle.hop_event.specs.declared.event.Event.{Event}
use Rattle.hop_machine.specs.step.Steps.{Kept, Value, Deeds, Steps, Record, GiveBack, at1}
use Rattle.hop_machine.specs.home.Conditions.{May}
use Rattle.hop_inner.specs.Setups.{parts}

-- what its end did, and the number of the value under it
pub record Lock : Type 0 where
  pub kept : Kept
  pub number : ℕ

-- a value with these events and these marks due was given back
abbrev pub given_back : Value → Lock → Lock
given_back v x = record x { kept = record x.kept { events = v.events; due = v.due; held = false } }

-- what is given back has the events that were taken, or one event more
abbrev pub MayGive : Value → Kept → Type 0
MayGive v x = (v.events ≡ x.events) ⊎ ((e : Event) × (v.events ≡ e ∷ x.events))

-- the recorder's end of lock p shows this
abbrev pub with_kept : ℕ → Kept → Deeds → Deeds
with_kept p k d = record d { did = record d.did { keeps = at1 d.did.keeps p k } }

-- the value has one event more than was taken, and that event may be recorded
pub record AddsOne (p : ℕ) (v : Value) (d : Deeds) : Type 0 where
  pub event : Event
  pub events : v.events ≡ event ∷ (d.did.keeps p).events
  pub may : May parts (Record p event) d

-- one event more, and then the value is given back
pub record RecordsOne (exact : Bool) (p : ℕ) (e : Event) (due : List ℕ) (a b : Deeds) : Type 0 where
  pub between : Deeds
  pub records : Steps exact (Record p e) tt a between
  pub gives : Steps exact (GiveBack p due) tt between b
