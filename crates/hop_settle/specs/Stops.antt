-- Why a coordinator's call stops, and where the run then is.
use Rattle.std.specs.Prelude.{◌≡◌, ◌⊎◌, ℕ, Bool, true, false, List, Some, slice_set, Result, Ok, Err}
use Rattle.std.specs.List.{slice_get}
use Rattle.hop_base.specs.Meaning.{Meaning}
use Rattle.hop_base.specs.Run.{ScriptLines, RunSettings}
use Rattle.hop_machine.specs.play.Play.{Place, unless_spent}
use Rattle.hop_actors.specs.declared.turn.Turn.{Turn}
use Rattle.hop_actors.specs.declared.turn.Turn.TheVariants as answer
use Rattle.hop_actors.specs.declared.fault.Fault.{Fault}
use Rattle.hop_actors.specs.declared.fault.Fault.TheVariants as fault
use Rattle.hop_actors.specs.Acting.{said_fault}
use Rattle.hop_actors.specs.Counting.{Counts, StoreCause, WriterCause}

-- # Where the run goes on

-- The next place, or, after a fault, the one where the run ends: a split has no attempt left, or it is halted.
abbrev pub place_after : {A : Type 0} → Result A Fault → Place → Place
place_after (Ok x) go = go
place_after (Err f) go = unless_spent (said_fault f) go

-- a fault of a turn
abbrev pub went_or_fault : Turn → Result (Unit {0}) Fault
went_or_fault answer.Worked = Ok tt
went_or_fault answer.Idle = Ok tt
went_or_fault answer.Ended = Ok tt
went_or_fault (answer.Failed f) = Err f

-- whether a turn was answered Idle, unless it failed
abbrev pub idle_or_fault : Turn → Result Bool Fault
idle_or_fault answer.Worked = Ok false
idle_or_fault answer.Idle = Ok true
idle_or_fault answer.Ended = Ok false
idle_or_fault (answer.Failed f) = Err f

-- # Causes

module _ (job : Meaning) (records : List (List ℕ)) (script : ScriptLines) (settings : RunSettings) where
  -- The mapper at one place stopped, by the counts of its folder; those of the others are as before.
  pub record StoreStopped (a b : List Counts) (f : Fault) : Type 0 where
    pub worker : ℕ
    pub before : Counts
    pub here : slice_get a worker ≡ Some before
    pub after : Counts
    pub cause : StoreCause job records script settings worker before after f
    pub now : b ≡ slice_set a worker after

  -- A call over mappers and reducers stops where a mapper did, or where memory was wanting.
  abbrev pub StoresStop : List Counts → List Counts → Fault → Type 0
  StoresStop a b f = StoreStopped a b f ⊎ ((f ≡ fault.NoMemory) × (b ≡ a))

  -- And one over all actors where the writer did, too.
  abbrev pub CrewStops : List Counts → List Counts → Counts → Counts → Fault → Type 0
  CrewStops a b x y f = (StoresStop a b f × (y ≡ x)) ⊎ (WriterCause x y f × (b ≡ a))

  -- a mapper's turn in a list: no count rises unless it failed
  abbrev pub MapCounts : List Counts → List Counts → Turn → Type 0
  MapCounts a b (answer.Failed f) = StoreStopped a b f
  MapCounts a b answer.Worked = b ≡ a
  MapCounts a b answer.Idle = b ≡ a
  MapCounts a b answer.Ended = b ≡ a
