-- How a run ends that was begun.
use Rattle.std.specs.Prelude.{◌≡◌, ◌⊎◌, Bool, List, ℕ}
use Rattle.hop_base.specs.Meaning.{Meaning}
use Rattle.hop_base.specs.Causes.{Rose}
use Rattle.hop_ports.specs.Views.{FolderView, SinkView}
use Rattle.hop_replay.specs.Driven.{Traced}
use Rattle.hop_replay.specs.Folders.{SameCounts}
use Rattle.hop_replay.specs.Given.{Given}
use Rattle.hop_trace.specs.Told.{IsTold}
use Rattle.hop_top.specs.Named.{RunNames}
use Rattle.hop_top.specs.Puts.{HandsOut, Puts, with_files}
use Rattle.hop_top.specs.Runs.{in_order, run_files, run_summary}
use Rattle.hop_top.specs.Snaps.{AreSnaps, MaySnap, SpentWith}
use Rattle.hop_top.specs.declared.outcome.Outcome.{Outcome}
use Rattle.hop_top.specs.declared.outcome.Outcome.TheVariants as outcome

-- why it stopped: a split has no attempt left, a folder failed, a spill of the run isn't as it was put, or memory was wanting
abbrev pub RunStops : Given → List Meaning → Bool → Puts → Outcome → Type 0
RunStops g later tells early (outcome.RetriesSpent split) = SpentWith g later tells split early
RunStops g later tells early outcome.FolderFailed = Unit {0}
RunStops g later tells early (outcome.SpillFailed worker) = Unit {0}
RunStops g later tells early (outcome.SpillDamaged worker at kept found) = RunNames g (outcome.SpillDamaged worker at kept found)
RunStops g later tells early (outcome.SpillCollides worker at place) = RunNames g (outcome.SpillCollides worker at place)
RunStops g later tells early outcome.NoMemory = Unit {0}
RunStops g later tells early other = ⊥

-- what an answer says of the counts of the job folder while a run went on: a put failed only where it says so
abbrev pub JobAnswers : FolderView → FolderView → Outcome → Type 0
JobAnswers a b outcome.FolderFailed = (b.gets ≡ a.gets) × Rose a.puts b.puts
JobAnswers a b other = SameCounts a b

-- It stopped: the job folder has the files more that were put before.
pub record RunFails (g : Given) (later : List Meaning) (tells : Bool) (old new : FolderView) (answer : Outcome) : Type 0 where
  pub early : Puts
  pub may : MaySnap g later tells early
  pub held : new.held ≡ with_files old.held early
  pub counts : JobAnswers old new answer
  pub why : RunStops g later tells early answer

-- It came to its end: the job folder has the snapshots more of the cuts of its histories, in the order in which they were put.
pub record RunSnaps (g : Given) (later : List Meaning) (tells : Bool) (t : Traced) (old new : FolderView) : Type 0 where
  pub early : Puts
  pub may : MaySnap g later tells early
  pub are : AreSnaps g later tells t early
  pub held : new.held ≡ with_files old.held early
  pub counts : SameCounts old new

module _ (old new : FolderView) (out_old out_new : SinkView) (g : Given) (later : List Meaning) (t : Traced) (texts : List (List ℕ)) where
  -- memory was wanting before anything was put or written
  pub record EndsUnsaid (answer : Outcome) : Type 0 where
    pub memory : answer ≡ outcome.NoMemory
    pub folder : new ≡ old
    pub out : out_new ≡ out_old

  -- its trace tells all of it, and its files and its summary are handed out
  pub record EndsHanded (answer : Outcome) : Type 0 where
    pub told : IsTold g.job.name t.begun (in_order t)
    pub hands : HandsOut old new out_old out_new (run_files g later t texts) (run_summary g later t) answer

  -- it came to its end
  abbrev pub RunEnds : Outcome → Type 0
  RunEnds answer = EndsUnsaid answer ⊎ EndsHanded answer
