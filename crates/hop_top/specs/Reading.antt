-- What each command reads, and how it is read.
use Rattle.std.specs.Prelude.{◌≡◌, ◌≤◌, ◌⊎◌, ℕ, List, [], ◌∷◌, ◌++◌, length, Option, None, Some, unwrap_or, IfSome, MatchOption}
use Rattle.std.specs.List.{AllByRecursion}
use Rattle.std.specs.FinMap as map
use Rattle.hop_base.specs.Causes.{Rose}
use Rattle.hop_base.specs.Files.{Files}
use Rattle.hop_ports.specs.Views.{FolderView}
use Rattle.hop_ports.specs.Causes.{IsLonger}
use Rattle.hop_words.specs.Options.{Asked, AskedOptions, block, chain, run, replay}
use Rattle.hop_top.specs.declared.outcome.File.{File}
use Rattle.hop_top.specs.declared.outcome.File.TheVariants as which
use Rattle.hop_top.specs.declared.outcome.Refusal.TheVariants as refusal
use Rattle.hop_top.specs.declared.outcome.Outcome.{Outcome}
use Rattle.hop_top.specs.declared.outcome.Outcome.TheVariants as outcome

-- a file that a command reads, with the greatest number of bytes that it may have
pub record Wanted : Type 0 where
  pub file : File
  pub name : List ℕ
  pub most : ℕ

-- the input, the script and the turn list of these names
abbrev pub input_named : List ℕ → Wanted
input_named name = record { file = which.Input; name = name; most = 16777216 }

abbrev pub script_named : List ℕ → Wanted
script_named name = record { file = which.Script; name = name; most = 1048576 }

abbrev pub turns_named : List ℕ → Wanted
turns_named name = record { file = which.Turns; name = name; most = 1048576 }

-- a file that is read where it is named
abbrev pub where_named : (List ℕ → Wanted) → Option (List ℕ) → List Wanted
where_named wanted None = []
where_named wanted (Some name) = wanted name ∷ []

-- what a run reads, in order
abbrev pub run_reads : List ℕ → Option (List ℕ) → Option (List ℕ) → List Wanted
run_reads input script turns = input_named input ∷ (where_named script_named script ++ where_named turns_named turns)

abbrev pub command_reads : Asked → Option (List ℕ) → Option (List ℕ) → List Wanted
command_reads (block job input) script turns = input_named input ∷ []
command_reads (run job input) script turns = run_reads input script turns
command_reads (replay job input) script turns = run_reads input script turns
command_reads (chain jobs input) script turns = run_reads input script turns

-- what is read, in order
abbrev pub reads_of : AskedOptions → List Wanted
reads_of options = command_reads options.command options.script options.turns

-- ---- what is there

-- the bytes that are held under a name
abbrev pub bytes_of : Files → List ℕ → List ℕ
bytes_of files name = unwrap_or (map.get files name) []

-- the bytes of a file that may be named: none where it isn't
abbrev pub bytes_named : Files → Option (List ℕ) → List ℕ
bytes_named files None = []
bytes_named files (Some name) = bytes_of files name

-- the file is there and isn't too long
pub record IsReadable (files : Files) (wanted : Wanted) : Type 0 where
  pub present : map.get files wanted.name ≡ Some (bytes_of files wanted.name)
  pub short : length (bytes_of files wanted.name) ≤ wanted.most

-- so is each of these
abbrev pub AreReadable : Files → List Wanted → Type 0
AreReadable files wanteds = AllByRecursion (IsReadable files) wanteds

-- where the folder tells, the file is there and isn't too long
abbrev pub IsThere : FolderView → Wanted → Type 0
IsThere old wanted = IfSome old.held (λ files. IsReadable files wanted)

-- ---- what can't be read

-- P holds of the first of these that isn't R
abbrev pub FirstUnread : (Wanted → Type 0) → (Wanted → Type 0) → List Wanted → Type 0
FirstUnread R P [] = ⊥
FirstUnread R P (wanted ∷ others) = P wanted ⊎ (R wanted × FirstUnread R P others)

module _ (old new : FolderView) where
  -- the file is absent, or a get failed
  abbrev pub IsAbsent : File → Wanted → Type 0
  IsAbsent file wanted =
      (wanted.file ≡ file) × MatchOption old.held (Rose old.gets new.gets) (λ files. (map.get files wanted.name ≡ None) ⊎ Rose old.gets new.gets)

  -- the file has too many bytes
  abbrev pub IsLong : File → Wanted → Type 0
  IsLong file wanted =
      (wanted.file ≡ file) × MatchOption old.held (Rose old.gets new.gets) (λ files. IsLonger wanted.most (map.get files wanted.name))

  -- the first of these that can't be read has P
  abbrev pub Unread : List Wanted → (Wanted → Type 0) → Type 0
  Unread wanteds P = FirstUnread (IsThere old) P wanteds

  -- why a file couldn't be read; where memory was wanting, no get failed
  abbrev pub ReadFault : Wanted → Outcome → Type 0
  ReadFault wanted (outcome.InputFailed file) = IsAbsent file wanted
  ReadFault wanted (outcome.InputRefused (refusal.TooLong file)) = IsLong file wanted
  ReadFault wanted outcome.NoMemory = new.gets ≡ old.gets
  ReadFault wanted other = ⊥

  -- why these couldn't all be read
  abbrev pub ReadsFault : List Wanted → Outcome → Type 0
  ReadsFault wanteds (outcome.InputFailed file) = Unread wanteds (IsAbsent file)
  ReadsFault wanteds (outcome.InputRefused (refusal.TooLong file)) = Unread wanteds (IsLong file)
  ReadsFault wanteds outcome.NoMemory = new.gets ≡ old.gets
  ReadsFault wanteds other = ⊥

-- where the folder tells, these are the bytes of the file, and no more than it may have
abbrev pub ReadsAs : FolderView → Wanted → List ℕ → Type 0
ReadsAs old wanted bytes = IfSome old.held (λ files. (map.get files wanted.name ≡ Some bytes) × (length bytes ≤ wanted.most))

-- the same of a file that may be named: no bytes where it isn't
abbrev pub NamedAs : FolderView → (List ℕ → Wanted) → Option (List ℕ) → List ℕ → Type 0
NamedAs old wanted None bytes = bytes ≡ []
NamedAs old wanted (Some name) bytes = ReadsAs old (wanted name) bytes

-- and why it couldn't be read
abbrev pub NamedFault : FolderView → FolderView → (List ℕ → Wanted) → Option (List ℕ) → Outcome → Type 0
NamedFault old new wanted None why = ⊥
NamedFault old new wanted (Some name) why = ReadFault old new (wanted name) why

-- what is read for a run
pub record RunTexts : Type 0 where
  pub input : List ℕ
  pub script : List ℕ
  pub turns : List ℕ

-- the texts that the folder holds under these names
abbrev pub texts_held : Files → List ℕ → Option (List ℕ) → Option (List ℕ) → RunTexts
texts_held files input script turns = record { input = bytes_of files input; script = bytes_named files script; turns = bytes_named files turns }

-- where the folder tells, all files of a run are there, and these are their bytes
abbrev pub ReadsRun : FolderView → List ℕ → Option (List ℕ) → Option (List ℕ) → RunTexts → Type 0
ReadsRun old input script turns texts =
    IfSome old.held (λ files. AreReadable files (run_reads input script turns) × (texts ≡ texts_held files input script turns))
