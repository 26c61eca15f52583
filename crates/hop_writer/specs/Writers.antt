-- What contracts see of a writer, and what is true of each.
use Rattle.std.specs.Prelude.{◌≡◌, ℕ, ◌<◌, ◌≤◌, Bool, false, List, [], ◌∷◌, ◌++◌, length, map, take, Option, is_some}
use Rattle.std.specs.List.{flat_map}
use Rattle.hop_base.specs.Files.{Files}
use Rattle.hop_base.specs.Meaning.{Meaning}
use Rattle.hop_base.specs.Run.{RunSettings}
use Rattle.hop_base.specs.declared.settings.Settings.{Settings}
use Rattle.hop_ports.specs.Views.{FolderView}
use Rattle.hop_records.specs.Records.{lens_of}
use Rattle.hop_shelf.specs.Names.{book_of}
use Rattle.hop_cut.specs.Covered.{header_of}
use Rattle.hop_cut.specs.declared.cut.Cut.{Cut}
use Rattle.hop_laws.specs.Groups.{red}
use Rattle.hop_run.specs.Runs.{RunValue}
use Rattle.hop_jobs.specs.Known.{known_meaning}
use Rattle.hop_jobs.specs.declared.known.Known.{Known}
use Rattle.hop_machine.specs.step.Setup.{CutSaid, Setup}
use Rattle.hop_machine.specs.actors.ReducerTurns.{Writer, Writing}
use Rattle.hop_inner.specs.Messages.{said_cut}
use Rattle.hop_actors.specs.Counting.{Counts}
use Rattle.hop_writer.specs.declared.kept.Kept.{Kept}
use Rattle.hop_writer.specs.declared.notes.Noted.{Noted}
use Rattle.hop_writer.specs.Puts.{Puts, with_files}
use Rattle.hop_writer.specs.Snapshots.{HoldsSnaps, IsSnapshot, Snapshot, files_at, kept_of}

-- a writer: its part of the machine, its folder, and whether a turn of it failed
pub record WriterValue (F : Type 0) : Type 0 where
  pub writer : Writer
  pub folder : F
  pub failed : Bool

-- what was noted of a cut, as the machine says it
abbrev pub writing_of : Noted × Cut → Writing
writing_of x = record { reducer = x.0.reducer; cut = said_cut x.1; put = x.0.put }

-- the writer of the machine that it is
abbrev pub writer_of : Setup → ℕ → List (Noted × Cut) → Writer
writer_of setup next notes = record { setup = setup; next = next; writings = map writing_of notes }

-- what contracts see of its folder
abbrev pub counts_of : FolderView → Counts
counts_of seen = record { tells = is_some seen.held; gets = seen.gets; puts = seen.puts }

-- # What it keeps

-- what is kept of one snapshot more: nothing in a run of one job
abbrev pub kept_with : List Meaning → List Kept → Snapshot → List Kept
kept_with [] kept s = kept
kept_with (job ∷ jobs) kept s = kept ++ kept_of s ∷ []

-- what is kept of these snapshots
abbrev pub kept_all : List Meaning → List Snapshot → List Kept
kept_all [] snaps = []
kept_all (job ∷ jobs) snaps = map kept_of snaps

-- the snapshot of a cut by its runs
abbrev pub snapshot_made : Meaning → ℕ → ℕ → List ℕ → Cut → Snapshot
snapshot_made job p r lens cut = record { header = header_of job.name cut.mark p r cut.progress lens cut.declared; body = red job.reduced (flat_map (λ (run : RunValue). run.sheet) cut.runs) }

module _ (job : Meaning) (records : List (List ℕ)) (settings : RunSettings) (later : List Meaning) (tells : Bool) (p : ℕ) (c : CutSaid) where
  -- a snapshot of the cut was made, with all files that are put with it
  pub record MakesFiles (kept then : List Kept) (files : Puts) : Type 0 where
    pub snap : Snapshot
    pub is : IsSnapshot job records settings tells p c snap
    pub kept_are : then ≡ kept_with later kept snap
    pub files_are : files ≡ files_at later settings.reducers kept snap

  -- and they were put
  pub record PutsCut (kept then : List Kept) (old new : Option Files) : Type 0 where
    pub files : Puts
    pub makes : MakesFiles kept then files
    pub held : new ≡ with_files old files

  -- or the first of them were
  pub record LeavesCut (kept : List Kept) (old new : Option Files) : Type 0 where
    pub snap : Snapshot
    pub is : IsSnapshot job records settings tells p c snap
    pub count : ℕ
    pub held : new ≡ with_files old (take count (files_at later settings.reducers kept snap))

-- # What is true of each

-- what a writer has is of the run and of the chain, and it looks next at a cut lane of the run
pub record IsOfRun (job : Meaning) (records : List (List ℕ)) (settings : RunSettings) (later : List Meaning) (own_later : List Known) (own_job : Meaning) (lens : List ℕ) (own : Settings) (next : ℕ) : Type 0 where
  pub later_are : map known_meaning own_later ≡ later
  pub few : length own_later ≤ 3
  pub job_is : own_job ≡ job
  pub lens_are : lens ≡ lens_of (book_of records settings)
  pub reducers : own.reducers ≡ settings.reducers
  pub lane : next < settings.reducers

-- it is of the run, its folder holds the files of what it wrote, and it keeps what the later jobs take of that
pub record IsSound (job : Meaning) (records : List (List ℕ)) (settings : RunSettings) (later : List Meaning) (tells : Bool) (start : Option Files) (own_later : List Known) (own_job : Meaning) (lens : List ℕ) (own : Settings)
    (next : ℕ) (held : Option Files) (failed : Bool) (kept : List Kept) (notes : List (Noted × Cut)) : Type 0 where
  pub of_run : IsOfRun job records settings later own_later own_job lens own next
  pub holds : HoldsSnaps job records settings later tells failed start held (map writing_of notes)
  pub kept_are : failed ≡ false → kept ≡ kept_all later holds.snaps
