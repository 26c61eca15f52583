-- A reducer between the calls by which it is given what it lacks, before the pulls of settling.
use Rattle.std.specs.Prelude.{◌≡◌, ℕ, true, List, Some}
use Rattle.std.specs.List.{slice_get}
use Rattle.hop_event.specs.Legal.{NoFinish}
use Rattle.hop_machine.specs.step.Steps.{Deeds}
use Rattle.hop_machine.specs.actors.MapperTurns.{Mapper}
use Rattle.hop_machine.specs.actors.ReducerTurns.{Reducer}
use Rattle.hop_machine.specs.home.Said.{history_of}
use Rattle.hop_machine.specs.home.ReducerHome.{IsSetup, NoneDue}
use Rattle.hop_machine.specs.run.AllHome.{MapperIsHome, ReducerIsHome, NoRestartDue}

-- what is left of a reducer at its place: it is at home, its history has no finish, and none of its cuts is due
pub record ReducerAfter (p : ℕ) (y : Reducer) (b : Deeds) : Type 0 where
  pub home : ReducerIsHome p y b
  pub «open» : NoFinish (history_of b p)
  pub none : NoneDue p b

-- the same of one that stands at the place of its number
pub record ReducerNow (r : Reducer) (d : Deeds) : Type 0 where
  pub set : IsSetup d.setup
  pub after : ReducerAfter r.number r d

-- no restart is due
pub record ReducerCalm (r : Reducer) (d : Deeds) : Type 0 where
  pub now : ReducerNow r d
  pub calm : NoRestartDue d r.number

-- each of the mappers is at home at its place
abbrev pub AreHome : List Mapper → Deeds → Type 0
AreHome ms d = (w : ℕ) (m : Mapper) → slice_get ms w ≡ Some m → MapperIsHome w m d

-- a reducer that lags, of which no restart is due, and the mappers that kept what it lacks
pub record Lagging (ms : List Mapper) (r : Reducer) (d : Deeds) : Type 0 where
  pub calm : ReducerCalm r d
  pub lagging : r.lagging ≡ true
  pub mappers : AreHome ms d
