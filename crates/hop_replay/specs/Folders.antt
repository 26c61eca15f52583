-- The spill folders of a run, by worker, before and after it.
use Rattle.std.specs.Prelude.{◌≡◌, ◌≢◌, ◌⊎◌, ℕ, ◌<◌, List, Option, Some, None, is_some, slice_index_or}
use Rattle.std.specs.List.{slice_get}
use Rattle.hop_base.specs.Causes.{Rose}
use Rattle.hop_base.specs.Files.{Files}
use Rattle.hop_base.specs.Meaning.{Meaning}
use Rattle.hop_base.specs.Run.{RunSettings}
use Rattle.hop_ports.specs.Views.{FolderView}
use Rattle.hop_records.specs.Records.{lens_of}
use Rattle.hop_shelf.specs.Names.{book_of}
use Rattle.hop_vault.specs.Rows.{kept_end}
use Rattle.hop_mapper.specs.Mappers.{MapperValue}
use Rattle.hop_start.specs.Made.{folder_of}
use Rattle.hop_actors.specs.Counting.{Counts}
use Rattle.hop_actors.specs.Spilled.{IsSpilled, OnlySpills}
use Rattle.hop_actors.specs.declared.fault.Fault.{Fault}
use Rattle.hop_actors.specs.declared.fault.Fault.TheVariants as fault

-- what contracts see of the spill folders of the workers, before and after
pub record Spilling : Type 0 where
  pub before : List FolderView
  pub after : List FolderView

-- whether a folder tells what it holds, and the counts of its faults
abbrev pub counts_seen : FolderView → Counts
counts_seen seen = record { tells = is_some seen.held; gets = seen.gets; puts = seen.puts }

-- no count of the folder's faults rose
pub record SameCounts (a b : FolderView) : Type 0 where
  pub gets : b.gets ≡ a.gets
  pub puts : b.puts ≡ a.puts

-- one did
abbrev pub CountRose : FolderView → FolderView → Type 0
CountRose a b = ((b.gets ≡ a.gets) × Rose a.puts b.puts) ⊎ (Rose a.gets b.gets × (b.puts ≡ a.puts))

-- What a fault says of the counts of worker w's folder, and of whether it tells.
abbrev pub WorkerFaults : ℕ → FolderView → FolderView → Fault → Type 0
WorkerFaults w a b (fault.SpillFailed worker) = (worker ≡ w → CountRose a b) × (worker ≢ w → SameCounts a b)
WorkerFaults w a b (fault.SpillDamaged worker at kept found) = SameCounts a b × (worker ≡ w → (a.held ≡ None) × (found ≢ kept))
WorkerFaults w a b (fault.SpillCollides worker at place) = SameCounts a b × (worker ≡ w → a.held ≡ None)
WorkerFaults w a b (fault.SpentAt split) = SameCounts a b
WorkerFaults w a b fault.FolderFailed = SameCounts a b
WorkerFaults w a b fault.NoMemory = SameCounts a b

-- The worker that a fault names is one of so many.
abbrev pub NamesWorker : ℕ → Fault → Type 0
NamesWorker workers (fault.SpillFailed worker) = worker < workers
NamesWorker workers (fault.SpillDamaged worker at kept found) = worker < workers
NamesWorker workers (fault.SpillCollides worker at place) = worker < workers
NamesWorker workers (fault.SpentAt split) = Unit {0}
NamesWorker workers fault.FolderFailed = Unit {0}
NamesWorker workers fault.NoMemory = Unit {0}

-- in each folder only files of spills were put
abbrev pub OnlySpillsPut : Spilling → Type 0
OnlySpillsPut s = (w : ℕ) (a b : FolderView) → slice_get s.before w ≡ Some a → slice_get s.after w ≡ Some b → OnlySpills a.held b.held

-- where a run came to its end no count rose
abbrev pub NoneFailed : Spilling → Type 0
NoneFailed s = (w : ℕ) (a b : FolderView) → slice_get s.before w ≡ Some a → slice_get s.after w ≡ Some b → SameCounts a b

-- and where it stopped, only the one that the fault tells of
pub record Stopped (workers : ℕ) (s : Spilling) (f : Fault) : Type 0 where
  pub named : NamesWorker workers f
  pub each : (w : ℕ) (a b : FolderView) → slice_get s.before w ≡ Some a → slice_get s.after w ≡ Some b → WorkerFaults w a b f

-- The folder of each of these mappers holds what it held at the start and the files of just the spills that the mapper kept, where it tells.
abbrev pub AreSpilledBy : Meaning → List (List ℕ) → RunSettings → List (Option Files) → {V K : Type 0} → (V → FolderView) → List (MapperValue V K) → Type 0
AreSpilledBy job records settings spills {V} {K} seen ms = (w : ℕ) (m : MapperValue V K) → slice_get ms w ≡ Some m
    → IsSpilled job records settings.split settings.reducers settings.spill (lens_of (book_of records settings)) (λ i a. kept_end m.vault.rows i a) (slice_index_or spills w None) (seen (folder_of m)).held

-- In the folder of each of these mappers only files of spills were put.
abbrev pub HaveOnlySpills : List (Option Files) → {V K : Type 0} → (V → FolderView) → List (MapperValue V K) → Type 0
HaveOnlySpills spills {V} {K} seen ms = (w : ℕ) (m : MapperValue V K) → slice_get ms w ≡ Some m → OnlySpills (slice_index_or spills w None) (seen (folder_of m)).held
