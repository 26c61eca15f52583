-- Whose an attempt is: what the vaults kept of it, and by whose lanes its ranges came.
use Rattle.std.specs.Prelude.{◌≡◌, ℕ, ◌<◌, ◌==◌, if◌then◌else◌, List, Some}
use Rattle.std.specs.List.{slice_get}
use Rattle.hop_event.specs.declared.event.Event.{Event}
use Rattle.hop_event.specs.Agreement.{history_at}
use Rattle.hop_machine.specs.step.Steps.{rules_of}
use Rattle.hop_machine.specs.step.Pushing.{kept_end, AllOfWorker}
use Rattle.hop_machine.specs.actors.MapperTurns.{Mapper}
use Rattle.hop_machine.specs.play.Play.{World}

-- worker w's vault kept all records that the attempt pushes, and no other kept any
abbrev pub KeptByOne : World → ℕ → ℕ → ℕ → Type 0
KeptByOne x w i n = (v : ℕ) (m : Mapper) → slice_get x.actors.mappers v ≡ Some m → m.kept i n ≡ (if v == w then kept_end (rules_of x.deeds.setup) i n else 0)

-- and in each history the attempt's ranges that came by a lane came by that worker's
pub record HasOneWorker (x : World) (histories : List (List Event)) (w i n : ℕ) : Type 0 where
  pub worker : w < x.deeds.setup.workers
  pub kept : KeptByOne x w i n
  pub came : (p : ℕ) → AllOfWorker w i n (history_at histories p)
