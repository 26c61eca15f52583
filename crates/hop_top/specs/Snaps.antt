-- The snapshots that a run puts while it runs, and in a chain those of the later jobs.
use Rattle.std.specs.Prelude.{◌≡◌, ℕ, Bool, List, take}
use Rattle.hop_base.specs.Meaning.{Meaning}
use Rattle.hop_machine.specs.actors.ReducerTurns.{Writing}
use Rattle.hop_ending.specs.Reached.{WroteReached}
use Rattle.hop_writer.specs.Snapshots.{AreSnapshots, Snapshot, files_of}
use Rattle.hop_replay.specs.Driven.{IsSpent, Traced}
use Rattle.hop_replay.specs.Given.{Given, setup_given}
use Rattle.hop_replay.specs.Snapshots.{AreCutsOf}
use Rattle.hop_top.specs.Puts.{Puts}

-- A snapshot of each of these cuts of the run's reducers: where the spill folders tell, its body is the reduction of just the records that it declares. The files are those of the snapshots, and in a chain
-- with the last one of a mark those of the later jobs, each over the bodies of the job before it.
pub record FilesOf (g : Given) (later : List Meaning) (tells : Bool) (writings : List Writing) (files : Puts) : Type 0 where
  pub snaps : List Snapshot
  pub are : AreSnapshots g.job g.records g.settings tells writings snaps
  pub files_are : files ≡ files_of later g.settings.reducers snaps

-- What a run may put while it runs: the first of the files of snapshots, each of a mark that was reached.
pub record MaySnap (g : Given) (later : List Meaning) (tells : Bool) (early : Puts) : Type 0 where
  pub writings : List Writing
  pub reached : WroteReached (setup_given g) writings
  pub files : Puts
  pub are : FilesOf g later tells writings files
  pub count : ℕ
  pub first : early ≡ take count files

-- The last attempt of the split was spent, and these are the files that were put before: of the cuts of each reducer's history those that stand no more in its cut lane.
pub record SpentWith (g : Given) (later : List Meaning) (tells : Bool) (split : ℕ) (early : Puts) : Type 0 where
  pub writings : List Writing
  pub spent : IsSpent g split writings
  pub files : FilesOf g later tells writings early

-- These are the files of a run that came to its end: of each reducer the snapshots of the cuts of its history, where it first reached each mark, in order.
pub record AreSnaps (g : Given) (later : List Meaning) (tells : Bool) (t : Traced) (early : Puts) : Type 0 where
  pub writings : List Writing
  pub cuts : AreCutsOf g t writings
  pub files : FilesOf g later tells writings early
