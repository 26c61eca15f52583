-- What is true of every reducer, and parts of its turn.
use Rattle.std.specs.Prelude.{◌≡◌, ℕ, ◌<◌, List, [], ◌∷◌, if◌then◌else◌, Bool}
use Rattle.hop_base.specs.Meaning.{Meaning}
use Rattle.hop_base.specs.Run.{RunSettings}
use Rattle.hop_base.specs.declared.settings.Settings.{Settings}
use Rattle.hop_records.specs.Records.{lens_of}
use Rattle.hop_shelf.specs.Names.{book_of}
use Rattle.hop_event.specs.declared.event.Event.{Event}
use Rattle.hop_machine.specs.declared.words.Turn.{Turn}
use Rattle.hop_machine.specs.declared.words.Turn.TheVariants.{Worked}
use Rattle.hop_machine.specs.step.Steps.{Setup, CutSaid, Prog, Done, Then, SendCut}
use Rattle.hop_machine.specs.actors.ReducerTurns.{Reducer, marks_due, notes, records, lane_after, must_restart, restarts, lags, looks}

-- the reducer of the machine that this is, in a run that fixes this
abbrev pub reducer_of : Setup → (p next : ℕ) → (late lagging : Bool) → Reducer
reducer_of s p next late lagging = record { number = p; setup = s; next = next; late = late; lagging = lagging }

-- It is made from the job, the record counts and the settings of its run, and looks next at a lane of the run.
pub record IsOfRun (job : Meaning) (records : List (List ℕ)) (settings : RunSettings) (made_for : Meaning) (lens : List ℕ) (made : Settings) (next : ℕ) : Type 0 where
  pub job_is : made_for ≡ job
  pub lens_are : lens ≡ lens_of (book_of records settings)
  pub workers : made.workers ≡ settings.workers
  pub lane : next < made.workers

-- one cut after another
abbrev pub each_said : ℕ → List CutSaid → Prog (Unit {0})
each_said p [] = Done tt
each_said p (c ∷ cuts) = Then (SendCut p c) (λ _. each_said p cuts)

-- the last of these events is recorded behind the others, and the cuts that it makes due are sent
abbrev pub notes_last : Reducer → List Event → Prog (Reducer × Turn)
notes_last r [] = Done (r, Worked)
notes_last r (e ∷ h) = notes r h e

-- the last of these events is recorded behind the others, and its cuts are due
abbrev pub records_last : {A : Type 0} → Reducer → List Event → A → Prog A
records_last r [] x = Done x
records_last r (e ∷ h) x = records r e (marks_due r.setup (e ∷ h)) x

-- the lane after this one is looked at first
abbrev pub served : Reducer → ℕ → Reducer
served r w = record r { next = lane_after r.setup.workers w }

-- the restart that is due is recorded
abbrev pub restarts_now : Reducer → List Event → Prog (Reducer × Turn)
restarts_now r h = restarts r h (lags r, Worked)

-- the restart that is due, or else the lanes
abbrev pub acts : Reducer → List Event → Prog (Reducer × Turn)
acts r h = if must_restart r.setup r.number h then restarts_now r h else looks r h r.setup.workers r.next
