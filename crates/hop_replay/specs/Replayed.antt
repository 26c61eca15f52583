-- A run that came to its end, with what its spill folders then hold.
use Rattle.std.specs.Prelude.{◌≡◌, ℕ, ◌<◌, Bool, IsTrue, List, length, Some}
use Rattle.std.specs.List.{slice_get}
use Rattle.hop_actors.specs.Spilled.{IsSpilled}
use Rattle.hop_laws.specs.Blocking.{blocking_texts}
use Rattle.hop_machine.specs.play.Play.{Machine}
use Rattle.hop_machine.specs.ending.Finishing.{AreSettled}
use Rattle.hop_ports.specs.Views.{FolderView}
use Rattle.hop_replay.specs.Driven.{Traced, AreOfPlay, AreTries, HaveWorkers, kept_of}
use Rattle.hop_replay.specs.Folders.{Spilling}
use Rattle.hop_replay.specs.Given.{Given, rules_given}

-- Each attempt that was begun has one worker, which its deliveries name. The folder of each worker holds what it held, and
-- exactly the files of the spills of its attempts.
pub record AreSpilled (g : Given) (t : Traced) (s : Spilling) : Type 0 where
  pub worker : ℕ → ℕ → ℕ
  pub workers : HaveWorkers g t worker
  pub folders : (w : ℕ) (old new : FolderView) → w < g.settings.workers → slice_get s.before w ≡ Some old → slice_get s.after w ≡ Some new
      → IsSpilled g.job g.records g.settings.split g.settings.reducers g.settings.spill (rules_given g).lens (kept_of (rules_given g) t.begun worker w) old.held new.held

-- Its histories are finished, agree and are delivered, and are those of the play; where the spill folders tell, its texts are those of
-- the blocking job.
pub record Ran (g : Given) (tells : Bool) (s : Spilling) (t : Traced) (texts : List (List ℕ)) : Type 0 where
  pub end : Machine
  pub play : AreOfPlay g end t
  pub settled : AreSettled (rules_given g) t.begun t.histories
  pub tries : AreTries g t.begun
  pub spilled : AreSpilled g t s
  pub parts : length texts ≡ g.settings.reducers
  pub blocking : IsTrue tells → texts ≡ blocking_texts g.job g.records g.settings.reducers
