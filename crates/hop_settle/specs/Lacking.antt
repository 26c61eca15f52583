-- What a reducer may still lack once all mappers have ended: it is pulled from the mappers, and then its history is finished.
use Rattle.std.specs.Prelude.{◌≡◌, ◌<◌, ℕ, true, List, Some, slice_index}
use Rattle.hop_event.specs.History.{winner, upto}
use Rattle.hop_machine.specs.step.Steps.{Deeds}
use Rattle.hop_machine.specs.step.Setup.{splits_of}
use Rattle.hop_machine.specs.step.Pushing.{has_restart}
use Rattle.hop_machine.specs.actors.MapperTurns.{Mapper}
use Rattle.hop_machine.specs.actors.ReducerTurns.{Reducer}
use Rattle.hop_machine.specs.home.Said.{history_of}
use Rattle.hop_machine.specs.home.Conditions.{HasReducer}
use Rattle.hop_machine.specs.play.Play.{kept_by}
use Rattle.hop_machine.specs.run.AllHome.{Pulls, mapper_of}
use Rattle.hop_machine.specs.run.Catches.{ReducerCalm, AreHome}
use Rattle.hop_machine.specs.step.Steps.{Setup, rules_of}
use Rattle.hop_machine.specs.ending.Finishing.{AreBegun}
use Rattle.hop_machine.specs.play.Play.{Actors}

-- The reducer, of which no restart is due, may be given what it lacks of the split's winner: some mapper kept that whole, and something is lacking only where a restart came.
pub record Lacks (ms : List Mapper) (r : Reducer) (i : ℕ) (d : Deeds) : Type 0 where
  pub calm : ReducerCalm r d
  pub mappers : AreHome ms d
  pub restarted : (n : ℕ) → winner i (history_of d r.number) ≡ Some n → upto i n (history_of d r.number) < slice_index d.setup.lens i → has_restart (history_of d r.number) ≡ true
  pub whole : (n : ℕ) → winner i (history_of d r.number) ≡ Some n → kept_by ms i n ≡ slice_index d.setup.lens i

-- the value has all ends of each reducer
abbrev pub HasReducers : Deeds → Type 0
HasReducers d = (p : ℕ) → p < d.setup.reducers → HasReducer p d

-- these are the numbers of the attempts that the mappers began, of each split the greatest
abbrev pub AreBegunBy : Actors → Setup → List ℕ → Type 0
AreBegunBy x s begun = AreBegun (rules_of s) (mapper_of x s) begun

-- reducer p has all that it lacked, and may finish its history with these numbers of begun attempts
pub record MayFinishHere (p : ℕ) (begun : List ℕ) (x : Actors) (d : Deeds) : Type 0 where
  pub pulled : Pulls p (splits_of d.setup) x d
  pub numbers : AreBegunBy x d.setup begun
