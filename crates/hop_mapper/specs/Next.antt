-- The running attempt and its next spill.
use Rattle.std.specs.Prelude.{◌≡◌, ◌⊎◌, ℕ, ◌+◌, ◌%◌, ◌<◌, ◌≤◌, List, length, min, slice_index, Option}
use Rattle.hop_base.specs.declared.part.Part.{Part}
use Rattle.hop_base.specs.Files.{Files}
use Rattle.hop_base.specs.Meaning.{Meaning}
use Rattle.hop_base.specs.Run.{RunSettings}
use Rattle.hop_event.specs.Legal.{Rules}
use Rattle.hop_ports.specs.Views.{with_file}
use Rattle.hop_records.specs.Records.{lens_of}
use Rattle.hop_shelf.specs.Names.{book_of}
use Rattle.hop_spill.specs.Spelling.{IsSpill, spill_text}
use Rattle.hop_spill.specs.SpillFiles.{name_of, spill_made}
use Rattle.hop_vault.specs.declared.kept.Kept.{Kept}
use Rattle.hop_vault.specs.Rows.{Table, kept_end, AddsTo}
use Rattle.hop_vault.specs.Vaults.{IsKept}
use Rattle.hop_press.specs.Fits.{KeepsMade}
use Rattle.hop_machine.specs.actors.MapperTurns.{Running, Work, Runs, Retries, Free}
use Rattle.hop_machine.specs.step.Pushing.{kept_end as last_end}

-- how many records a split of the run has
abbrev pub split_len : List (List ℕ) → RunSettings → ℕ → ℕ
split_len records settings split = slice_index (lens_of (book_of records settings)) split

-- what limits a run with a book and settings, and a split of it
pub record IsWithinLimits (records : List (List ℕ)) (settings : RunSettings) (split : ℕ) : Type 0 where
  pub splits : length (lens_of (book_of records settings)) ≤ 1024
  pub len : split_len records settings split ≤ 16777216
  pub some_spill : 1 ≤ settings.spill
  pub few_spill : settings.spill ≤ 65535
  pub attempts : settings.attempts ≤ 16
  pub some_reducers : 1 ≤ settings.reducers
  pub few_reducers : settings.reducers ≤ 8

-- a running attempt is one of the run's: whole spills of it are done, and the vault has kept them
pub record RunsHere (records : List (List ℕ)) (settings : RunSettings) (rows : Table) (run : Running) : Type 0 where
  pub split : run.split < length (lens_of (book_of records settings))
  pub attempt : run.attempt < settings.attempts
  pub within : run.done ≤ split_len records settings run.split
  pub kept : run.done ≡ kept_end rows run.split run.attempt
  pub whole : (run.done % settings.spill ≡ 0) ⊎ (run.done ≡ split_len records settings run.split)

-- so where an attempt runs
abbrev pub WorksHere : List (List ℕ) → RunSettings → Table → Work → Type 0
WorksHere records settings rows (Runs run) = RunsHere records settings rows run
WorksHere records settings rows (Retries split) = Unit {0}
WorksHere records settings rows Free = Unit {0}

-- The range begins where the kept spills of its attempt end, and has so many records as a spill has, or as are left.
pub record IsNext (records : List (List ℕ)) (settings : RunSettings) (rows : Table) (part : Part) : Type 0 where
  pub split : part.split < length (lens_of (book_of records settings))
  pub attempt : part.attempt < settings.attempts
  pub kept : part.from ≡ kept_end rows part.split part.attempt
  pub begins : part.from % settings.spill ≡ 0
  pub some : part.from < part.to
  pub to : part.to ≡ min (part.from + settings.spill) (split_len records settings part.split)

-- the attempt is one of the run's, and may end there: the script lets it come so far
pub record EndsWithin (rules : Rules) (i a last : ℕ) : Type 0 where
  pub split : i < length rules.lens
  pub attempt : a < rules.attempts
  pub end : last ≤ last_end rules i a

-- so of each attempt of which spills are kept
abbrev pub KeepsWithin : Rules → Table → Type 0
KeepsWithin rules rows = (i a : ℕ) → 0 < kept_end rows i a → EndsWithin rules i a (kept_end rows i a)

module _ (job : Meaning) (records : List (List ℕ)) (settings : RunSettings) where
  -- the vault kept the spill of this range, which was the next one, and its file was put
  pub record AddsSpill (held now : Option Files) (earlier after : Table) (part : Part) : Type 0 where
    pub before : KeepsMade job records settings held earlier
    pub next : IsNext records settings earlier part
    pub spill : IsSpill (spill_made job records settings.split settings.reducers part)
    pub kept : Kept
    pub kept_is : IsKept (spill_made job records settings.split settings.reducers part) kept
    pub rows : AddsTo earlier after part.split part.attempt kept
    pub put : now ≡ with_file held (name_of part.split part.attempt part.from) (spill_text (spill_made job records settings.split settings.reducers part))

  -- the vault keeps the same, or one spill more, and its folder holds what it held and that spill's file
  abbrev pub AddsAtMost : Option Files → Option Files → Table → Table → Type 0
  AddsAtMost held now before after = ((now ≡ held) × (after ≡ before)) ⊎ ((part : Part) × AddsSpill held now before after part)
