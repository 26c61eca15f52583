-- What a run is given.
use Rattle.std.specs.Prelude.{◌≡◌, ℕ, Bool, List, length, Option, None, Some, IsTrue, IsSome, IfSome, slice_index_or}
use Rattle.std.specs.List.{slice_get}
use Rattle.hop_base.specs.Files.{Files}
use Rattle.hop_base.specs.Meaning.{Meaning}
use Rattle.hop_base.specs.Run.{ScriptLines, RunSettings}
use Rattle.hop_base.specs.declared.settings.Settings.{Settings}
use Rattle.hop_ports.specs.Views.{FolderView}
use Rattle.hop_records.specs.Records.{lens_of}
use Rattle.hop_shelf.specs.Names.{book_of, IsRun}
use Rattle.hop_mapper.specs.Mappers.{settings_of}

-- The folder of worker w tells what it holds where the spill folders of the run do. Where it tells, it holds what the name of the run has for w.
pub record IsSpillFolder (tells : Bool) (spills : List (Option Files)) (w : ℕ) (seen : FolderView) : Type 0 where
  pub told : IsTrue tells → IsSome seen.held
  pub start : IfSome seen.held (λ files. slice_index_or spills w None ≡ Some files)

-- there is one for each worker, in the order of their numbers
pub record AreSpillFolders (tells : Bool) (spills : List (Option Files)) (workers : ℕ) {V : Type 0} (seen : V → FolderView) (folders : List V) : Type 0 where
  pub count : length folders ≡ workers
  pub each : (w : ℕ) (folder : V) → slice_get folders w ≡ Some folder → IsSpillFolder tells spills w (seen folder)

-- these are the record counts and the settings of a run
pub record AreCounted (records : List (List ℕ)) (settings : RunSettings) (lens : List ℕ) (own : Settings) : Type 0 where
  pub lens_are : lens ≡ lens_of (book_of records settings)
  pub settings_are : settings_of own ≡ settings

-- the job of a run is lawful, its records are short enough for it, and these are its record counts, its script and its settings
pub record AreOfRun (job : Meaning) (records : List (List ℕ)) (script : ScriptLines) (settings : RunSettings) (lens : List ℕ) (own_script : ScriptLines) (own : Settings) : Type 0 where
  pub run : IsRun job records settings
  pub counted : AreCounted records settings lens own
  pub script_is : own_script ≡ script
