-- A run whose actors were driven to its end, before its spill folders are looked at.
use Rattle.std.specs.Prelude.{◌≡◌, ℕ, ◌≤◌, ◌<◌, ◌==◌, ◌&&◌, nat_lt, Bool, IsTrue, if◌then◌else◌, List, [], ◌++◌, length, map, slice_index, Some}
use Rattle.std.specs.List.{slice_get}
use Rattle.hop_event.specs.declared.event.Event.{Event}
use Rattle.hop_event.specs.Agreement.{history_at}
use Rattle.hop_event.specs.Failing.{IsDoomed, tries}
use Rattle.hop_event.specs.Legal.{Rules}
use Rattle.hop_laws.specs.Blocking.{blocking_texts}
use Rattle.hop_ending.specs.Cuts.{put_of, writings_of}
use Rattle.hop_machine.specs.actors.MapperTurns.{Mapper}
use Rattle.hop_machine.specs.actors.ReducerTurns.{Writing}
use Rattle.hop_machine.specs.home.ReducerHome.{cuts_of}
use Rattle.hop_machine.specs.play.Play.{Machine, NoneLeft, Over}
use Rattle.hop_machine.specs.step.Pushing.{AllOfWorker, kept_end}
use Rattle.hop_machine.specs.run.AllHome.{mapper_of}
use Rattle.hop_machine.specs.ending.Finishing.{AreBegun, AreSettled}
use Rattle.hop_replay.specs.Given.{Given, PlaysTo, rules_given, setup_given}

-- of each split how many attempts were begun, and the history of each reducer, its last event first
pub record Traced : Type 0 where
  pub begun : List ℕ
  pub histories : List (List Event)

-- they are those of the machine at the end of the play
pub record AreOfPlay (g : Given) (end : Machine) (t : Traced) : Type 0 where
  pub played : PlaysTo g Over end
  pub begun : AreBegun (rules_given g) (mapper_of end.actors (setup_given g)) t.begun
  pub count : length t.histories ≡ g.settings.reducers
  pub each : (p : ℕ) → p < g.settings.reducers → history_at t.histories p ≡ (end.shared.histories p).events

-- as many attempts as it takes were begun of each split
abbrev pub AreTries : Given → List ℕ → Type 0
AreTries g begun = (i : ℕ) → i < length (rules_given g).lens → tries g.script g.settings.attempts i ≡ Some (slice_index begun i)

-- the records of an attempt whose spills worker w kept: where it began the attempt, up to where that ends
abbrev pub kept_of : Rules → List ℕ → (ℕ → ℕ → ℕ) → ℕ → ℕ → ℕ → ℕ
kept_of rules begun worker w i a = if nat_lt a (slice_index begun i) && (worker i a == w) then kept_end rules i a else 0

-- each attempt that was begun has one worker, which its deliveries name
pub record HaveWorkers (g : Given) (t : Traced) (worker : ℕ → ℕ → ℕ) : Type 0 where
  pub below : (i a : ℕ) → i < length (rules_given g).lens → a < slice_index t.begun i → worker i a < g.settings.workers
  pub named : (i a p : ℕ) → i < length (rules_given g).lens → a < slice_index t.begun i → AllOfWorker (worker i a) i a (history_at t.histories p)

-- The run came to its end. Its histories are finished, agree and are delivered, and are those of the play; each attempt's spills were kept by
-- its worker alone; where the spill folders tell, its texts are those of the blocking job.
pub record Drove (g : Given) (tells : Bool) (mappers : List Mapper) (t : Traced) (texts : List (List ℕ)) : Type 0 where
  pub end : Machine
  pub play : AreOfPlay g end t
  pub settled : AreSettled (rules_given g) t.begun t.histories
  pub tries : AreTries g t.begun
  pub worker : ℕ → ℕ → ℕ
  pub workers : HaveWorkers g t worker
  pub kept : (w : ℕ) (m : Mapper) → slice_get mappers w ≡ Some m → (i a : ℕ) → m.kept i a ≡ kept_of (rules_given g) t.begun worker w i a
  pub parts : length texts ≡ g.settings.reducers
  pub blocking : IsTrue tells → texts ≡ blocking_texts g.job g.records g.settings.reducers

-- A run in which the last attempt of this split was spent: it is one of the run's, the script has a line for each attempt of it that may be
-- begun, and the play of the turn list ends so. What the writer put of each reducer, and then what is still in its cut lane, are the cuts of its history.
pub record IsSpent (g : Given) (split : ℕ) (writings : List Writing) : Type 0 where
  pub end : Machine
  pub play : PlaysTo g (NoneLeft split) end
  pub is_split : split < length (rules_given g).lens
  pub doomed : IsDoomed g.script g.settings.attempts split
  pub put : (p : ℕ) → p < g.settings.reducers → writings_of p writings ++ map (put_of p) (end.shared.cuts p) ≡ map (put_of p) (cuts_of (setup_given g) (end.shared.histories p).events)
  pub others : (p : ℕ) → g.settings.reducers ≤ p → writings_of p writings ≡ []
