-- What is true of every mapper.
use Rattle.std.specs.Prelude.{◌≡◌, ℕ, Bool, false, List, length, Option, None, slice_index_or, IsTrue, IsSome}
use Rattle.hop_base.specs.Files.{Files}
use Rattle.hop_base.specs.declared.settings.Settings.{Settings}
use Rattle.hop_base.specs.Meaning.{Meaning}
use Rattle.hop_base.specs.Run.{ScriptLines, RunSettings}
use Rattle.hop_ports.specs.Views.{FolderView}
use Rattle.hop_records.specs.Records.{BookValue, lens_of}
use Rattle.hop_shelf.specs.Names.{book_of, rules_of, IsRun}
use Rattle.hop_vault.specs.Rows.{Table, kept_end}
use Rattle.hop_press.specs.Fits.{KeepsMade}
use Rattle.hop_press.specs.Held.{LaneValue, AreReady}
use Rattle.hop_actors.specs.Spilled.{IsSpilled, OnlySpills}
use Rattle.hop_mapper.specs.Mappers.{MapperValue, settings_of}
use Rattle.hop_mapper.specs.Next.{KeepsWithin}

-- what a mapper borrows is of the run
pub record IsOfRun (job : Meaning) (records : List (List ℕ)) (script : ScriptLines) (settings : RunSettings) (own_job : Meaning) (book : BookValue) (own_script : ScriptLines) (own : Settings) : Type 0 where
  pub run : IsRun job records settings
  pub job_is : own_job ≡ job
  pub book_is : book ≡ book_of records settings
  pub script_is : own_script ≡ script
  pub settings_are : settings_of own ≡ settings

-- A mapper's vault keeps the spills that the run makes alone, of each attempt no more than the script lets it make. It holds messages for each reducer, and counts the
-- attempts of each split. Unless a turn failed, each lane that holds something has a ready message.
pub record IsSound (job : Meaning) (records : List (List ℕ)) (script : ScriptLines) (settings : RunSettings) (tells : Bool) (own_job : Meaning) (book : BookValue) (own_script : ScriptLines) (own : Settings)
    (seen : FolderView) (rows : Table) {K : Type 0} (held : List (LaneValue K)) (begun : List ℕ) (failed : Bool) : Type 0 where
  pub of_run : IsOfRun job records script settings own_job book own_script own
  pub keeps : KeepsMade job records settings seen.held rows
  pub ends : KeepsWithin (rules_of records script settings) rows
  pub told : IsTrue tells → IsSome seen.held
  pub lanes : length held ≡ settings.reducers
  pub counts : length begun ≡ length (lens_of (book_of records settings))
  pub ready : failed ≡ false → AreReady held

-- Unless a turn failed, its folder holds what it held at the start and the files of just the spills that were kept, where it tells.
abbrev pub HoldsSpills : Meaning → List (List ℕ) → RunSettings → List (Option Files) → {V K : Type 0} → (V → FolderView) → MapperValue V K → Type 0
HoldsSpills job records settings spills seen m =
    m.failed ≡ false → IsSpilled job records settings.split settings.reducers settings.spill (lens_of (book_of records settings)) (λ i a. kept_end m.vault.rows i a) (slice_index_or spills m.vault.worker None) (seen m.vault.folder).held

-- at every answer, also after a turn that failed, only files of spills were put in its folder, where it tells
abbrev pub PutOnlySpills : List (Option Files) → {V K : Type 0} → (V → FolderView) → MapperValue V K → Type 0
PutOnlySpills spills seen m = OnlySpills (slice_index_or spills m.vault.worker None) (seen m.vault.folder).held

-- the two together: what its folder holds at every answer, and unless a turn failed
pub record KeepsFolder (job : Meaning) (records : List (List ℕ)) (settings : RunSettings) (spills : List (Option Files)) {V K : Type 0} (seen : V → FolderView) (m : MapperValue V K) : Type 0 where
  pub only : PutOnlySpills spills seen m
  pub spilled : HoldsSpills job records settings spills seen m
