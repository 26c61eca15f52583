-- The snapshots that a run leaves in its job folder.
use Rattle.std.specs.Prelude.{◌≡◌, ℕ, ◌≤◌, ◌<◌, Bool, false, List, [], map, is_some}
use Rattle.hop_actors.specs.declared.fault.Fault.{Fault}
use Rattle.hop_actors.specs.declared.fault.Fault.TheVariants as fault
use Rattle.hop_base.specs.Causes.{Rose}
use Rattle.hop_base.specs.Meaning.{Meaning}
use Rattle.hop_ending.specs.Cuts.{put_of, writings_of, ArePut}
use Rattle.hop_ending.specs.Reached.{WroteReached}
use Rattle.hop_event.specs.Agreement.{history_at}
use Rattle.hop_machine.specs.actors.ReducerTurns.{Writing}
use Rattle.hop_machine.specs.home.ReducerHome.{cuts_of}
use Rattle.hop_ports.specs.Views.{FolderView}
use Rattle.hop_writer.specs.Snapshots.{HoldsSnaps}
use Rattle.hop_replay.specs.Driven.{Traced, IsSpent}
use Rattle.hop_replay.specs.Folders.{SameCounts}
use Rattle.hop_replay.specs.Given.{Given, setup_given}

-- # What the writer wrote

-- of each reducer the writer put the cuts of its history, in order, and none of others
pub record AreCutsOf (g : Given) (t : Traced) (writings : List Writing) : Type 0 where
  pub each : (p : ℕ) → p < g.settings.reducers → writings_of p writings ≡ map (put_of p) (cuts_of (setup_given g) (history_at t.histories p))
  pub others : (p : ℕ) → g.settings.reducers ≤ p → writings_of p writings ≡ []

-- where a run came to its end, the writer put those, and nothing else; each was of a mark that was reached
pub record Wrote (g : Given) (t : Traced) (writings : List Writing) : Type 0 where
  pub cuts : AreCutsOf g t writings
  pub reached : WroteReached (setup_given g) writings
  pub put : ArePut g.settings.reducers writings

-- where it stopped, each was of a mark that was reached; where a split has no attempt left, all were put
pub record WroteUntil (g : Given) (f : Fault) (writings : List Writing) : Type 0 where
  pub reached : WroteReached (setup_given g) writings
  pub spent : (split : ℕ) → f ≡ fault.SpentAt split → IsSpent g split writings × ArePut g.settings.reducers writings

-- # What the job folder holds

-- Where a run came to its end: the job folder, where it tells, holds what it held with the snapshots of the cuts of the histories, and in a chain with those of these later jobs. No count of its faults rose.
pub record Snapped (g : Given) (later : List Meaning) (tells : Bool) (t : Traced) (a b : FolderView) : Type 0 where
  pub writings : List Writing
  pub cuts : AreCutsOf g t writings
  pub reached : WroteReached (setup_given g) writings
  pub holds : HoldsSnaps g.job g.records g.settings later tells false a.held b.held writings
  pub told : is_some b.held ≡ is_some a.held
  pub counts : (b.gets ≡ a.gets) × (b.puts ≡ a.puts)

-- what a fault says of the counts of the job folder: only where it says so, a put failed
abbrev pub JobFolderFaults : FolderView → FolderView → Fault → Type 0
JobFolderFaults a b (fault.SpillFailed worker) = SameCounts a b
JobFolderFaults a b (fault.SpillDamaged worker at kept found) = SameCounts a b
JobFolderFaults a b (fault.SpillCollides worker at place) = SameCounts a b
JobFolderFaults a b (fault.SpentAt split) = SameCounts a b
JobFolderFaults a b fault.FolderFailed = (b.gets ≡ a.gets) × Rose a.puts b.puts
JobFolderFaults a b fault.NoMemory = SameCounts a b

-- Where it stopped: it holds what it held with the snapshots of cuts that were put, each of a mark that was reached, and perhaps the first files more of a turn
-- that failed. Where a split has no attempt left no turn of the writer failed.
pub record SnappedUntil (g : Given) (later : List Meaning) (tells : Bool) (f : Fault) (a b : FolderView) : Type 0 where
  pub failed : Bool
  pub writings : List Writing
  pub reached : WroteReached (setup_given g) writings
  pub holds : HoldsSnaps g.job g.records g.settings later tells failed a.held b.held writings
  pub told : is_some b.held ≡ is_some a.held
  pub counts : JobFolderFaults a b f
  pub spent : (split : ℕ) → f ≡ fault.SpentAt split → IsSpent g split writings × (failed ≡ false)
