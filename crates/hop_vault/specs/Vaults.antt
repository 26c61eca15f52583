-- What contracts see of a vault, and what each of its calls leaves.
use Rattle.std.specs.Prelude.{◌≡◌, ◌≢◌, ◌⊎◌, ℕ, List, length, map, Option, None, Some, IfSome, Contains}
use Rattle.sha2.specs.Sha256.{sha256}
use Rattle.hop_base.specs.declared.part.Part.{Part}
use Rattle.hop_base.specs.declared.value.Pair.{Pair}
use Rattle.hop_base.specs.Causes.{Rose}
use Rattle.hop_base.specs.Files.{Files}
use Rattle.hop_ports.specs.Views.{FolderView, with_file}
use Rattle.hop_ports.specs.declared.folder.PutFault.{PutFault}
use Rattle.hop_ports.specs.declared.folder.PutFault.TheVariants as put_fault
use Rattle.hop_spill.specs.declared.spill.Spill.{Spill}
use Rattle.hop_spill.specs.Spelling.{spill_text}
use Rattle.hop_spill.specs.Reading.{read_spill}
use Rattle.hop_vault.specs.declared.kept.Kept.{Kept}
use Rattle.hop_vault.specs.declared.kept.KeepFault.{KeepFault}
use Rattle.hop_vault.specs.declared.kept.KeepFault.TheVariants as keep_fault
use Rattle.hop_vault.specs.declared.kept.FetchFault.{FetchFault}
use Rattle.hop_vault.specs.declared.kept.FetchFault.TheVariants as fetch_fault
use Rattle.hop_vault.specs.Rows.{Table, row_of, kept_end, range_of, IsChain, IsStretch, NoStretch, SameRows, AddsTo}
use Rattle.hop_spill.specs.SpillFiles.{name_of}
use Rattle.hop_vault.specs.Stored.{sheet_of, AreStored, AreFetched, AreHeldFrom, other_place}

-- a vault: its worker, its folder, and the spills that it kept
pub record VaultValue (V : Type 0) : Type 0 where
  pub worker : ℕ
  pub folder : V
  pub rows : Table

-- The spills of each attempt follow each other from record 0, and their texts are held, where the folder
-- tells what it holds.
pub record IsSound (seen : FolderView) (rows : Table) : Type 0 where
  pub chain : (i a : ℕ) → IsChain 0 (row_of rows i a) (kept_end rows i a)
  pub stored : IfSome seen.held (λ files. (i a : ℕ) → AreStored files i a (row_of rows i a))

-- what is kept of a spill
pub record IsKept (spill : Spill) (kept : Kept) : Type 0 where
  pub from_is : kept.from ≡ spill.from
  pub to_is : kept.to ≡ spill.to
  pub sheets_are : kept.sheets ≡ length spill.sheets
  pub len_is : kept.len ≡ length (spill_text spill)
  pub digest_is : kept.digest ≡ sha256 (spill_text spill)

-- what was kept, and what was put, of a spill that was kept
pub record IsKeptIn (old new : FolderView) (before after : Table) (spill : Spill) : Type 0 where
  pub kept : Kept
  pub kept_is : IsKept spill kept
  pub rows : AddsTo before after spill.split spill.attempt kept
  pub held : new.held ≡ with_file old.held (name_of spill.split spill.attempt spill.from) (spill_text spill)

-- a put's fault as a fault of keeping
abbrev pub not_put : PutFault → KeepFault
not_put put_fault.Failed = keep_fault.StoreFailed
not_put put_fault.NoMemory = keep_fault.NoMemory

-- why a spill isn't kept, and what was left: the same spills, and the text is not held or held in vain
abbrev pub KeepCause : FolderView → FolderView → Table → Table → Spill → KeepFault → Type 0
KeepCause old new before after spill keep_fault.StoreFailed =
    Rose old.puts new.puts × SameRows before after × ((new.held ≡ old.held) ⊎ (new.held ≡ with_file old.held (name_of spill.split spill.attempt spill.from) (spill_text spill)))
KeepCause old new before after spill keep_fault.NoMemory = SameRows before after × (new.held ≡ old.held) × (new.puts ≡ old.puts)

-- a kept spill of a range
pub record IsOfRange (rows : Table) (part at : Part) (kept : Kept) : Type 0 where
  pub spills : List Kept
  pub stretch : IsStretch (row_of rows part.split part.attempt) part.from part.to spills
  pub there : Contains spills kept
  pub at_is : at ≡ range_of part.split part.attempt kept

-- the sheets of partition p of the kept spills of a range, in order
pub record Fetches (held : Option Files) (rows : Table) (part : Part) (p : ℕ) (sheets : List (List Pair)) : Type 0 where
  pub spills : List Kept
  pub stretch : IsStretch (row_of rows part.split part.attempt) part.from part.to spills
  pub each : AreFetched held part.split part.attempt p spills sheets

-- where the folder tells, the sheets are those of the spills of the range whose texts it holds
abbrev pub AreOfHeld : Option Files → Part → ℕ → List (List Pair) → Type 0
AreOfHeld held part p sheets =
    (files : Files) (spills : List Spill) → held ≡ Some files → AreHeldFrom files part.split part.attempt part.from spills part.to → sheets ≡ map (λ spill. sheet_of spill p) spills

-- bytes are altered: they have another digest than the one that was kept
pub record IsDamaged (held : Option Files) (rows : Table) (part at : Part) (digest found : List ℕ) : Type 0 where
  pub kept : Kept
  pub of_range : IsOfRange rows part at kept
  pub bytes : List ℕ
  pub digest_is : digest ≡ kept.digest
  pub found_is : found ≡ sha256 bytes
  pub differs : found ≢ digest
  pub untold : held ≡ None

-- bytes with the digest that was kept are no spill text of its range with a sheet p
pub record Collides (held : Option Files) (rows : Table) (part : Part) (p : ℕ) (at : Part) (place : ℕ) : Type 0 where
  pub kept : Kept
  pub of_range : IsOfRange rows part at kept
  pub bytes : List ℕ
  pub digest_is : sha256 bytes ≡ kept.digest
  pub place_is : other_place at p (read_spill bytes) ≡ Some place
  pub untold : held ≡ None

-- why kept spills aren't fetched
abbrev pub FetchCause : {V : Type 0} → (V → FolderView) → VaultValue V → VaultValue V → Part → ℕ → FetchFault → Type 0
FetchCause seen old new part p (fetch_fault.NotKept have) =
    (new ≡ old) × (have ≡ kept_end old.rows part.split part.attempt) × NoStretch (row_of old.rows part.split part.attempt) part.from part.to
FetchCause seen old new part p fetch_fault.StoreFailed = Rose (seen old.folder).gets (seen new.folder).gets
FetchCause seen old new part p (fetch_fault.Damaged at digest found) = IsDamaged (seen old.folder).held old.rows part at digest found
FetchCause seen old new part p (fetch_fault.Collides at place) = Collides (seen old.folder).held old.rows part p at place
FetchCause seen old new part p fetch_fault.NoMemory = Unit {0}
