-- Reading one kept spill back.
use Rattle.std.specs.Prelude.{◌≡◌, ◌≢◌, ◌⊎◌, ℕ, List, Contains, None, Some}
use Rattle.sha2.specs.Sha256.{sha256}
use Rattle.hop_base.specs.declared.part.Part.{Part}
use Rattle.hop_base.specs.declared.value.Pair.{Pair}
use Rattle.hop_base.specs.Causes.{Rose}
use Rattle.hop_ports.specs.Views.{FolderView}
use Rattle.hop_spill.specs.declared.spill.Spill.{Spill}
use Rattle.hop_spill.specs.Spelling.{IsSpill, spill_text}
use Rattle.hop_spill.specs.Reading.{read_spill}
use Rattle.hop_vault.specs.declared.kept.Kept.{Kept}
use Rattle.hop_vault.specs.declared.kept.FetchFault.{FetchFault}
use Rattle.hop_vault.specs.declared.kept.FetchFault.TheVariants as fault
use Rattle.hop_vault.specs.Rows.{range_of}
use Rattle.hop_vault.specs.Stored.{first_other, other_place, sheet_of}

-- why bytes can't be got: where the folder failed, its count rose
abbrev pub GotCause : FolderView → FolderView → FetchFault → Type 0
GotCause old new fault.StoreFailed = Rose old.gets new.gets
GotCause old new fault.NoMemory = Unit {0}
GotCause old new (fault.NotKept have) = ⊥
GotCause old new (fault.Damaged at digest found) = ⊥
GotCause old new (fault.Collides at place) = ⊥

-- no get failed, unless this is the answer that tells of it
abbrev pub GetsAnswered : FolderView → FolderView → FetchFault → Type 0
GetsAnswered old new fault.StoreFailed = Unit {0}
GetsAnswered old new fault.NoMemory = new.gets ≡ old.gets
GetsAnswered old new (fault.NotKept have) = new.gets ≡ old.gets
GetsAnswered old new (fault.Damaged at digest found) = new.gets ≡ old.gets
GetsAnswered old new (fault.Collides at place) = new.gets ≡ old.gets

-- the sheet is that of partition p of the spill that the bytes spell, which is of the range
pub record IsOpened (at : Part) (p : ℕ) (digest bytes : List ℕ) (sheet : List Pair) : Type 0 where
  pub spill : Spill
  pub is_spill : IsSpill spill
  pub text_is : bytes ≡ spill_text spill
  pub same : first_other at p spill ≡ None
  pub digest_is : sha256 bytes ≡ digest
  pub sheet_is : sheet ≡ sheet_of spill p

-- why the bytes aren't taken
abbrev pub OpenedCause : Part → ℕ → List ℕ → List ℕ → FetchFault → Type 0
OpenedCause at p digest bytes (fault.Damaged place kept found) = (place ≡ at) × (kept ≡ digest) × (found ≡ sha256 bytes) × (found ≢ digest)
OpenedCause at p digest bytes (fault.Collides range place) = (range ≡ at) × (sha256 bytes ≡ digest) × (other_place at p (read_spill bytes) ≡ Some place)
OpenedCause at p digest bytes fault.NoMemory = Unit {0}
OpenedCause at p digest bytes fault.StoreFailed = ⊥
OpenedCause at p digest bytes (fault.NotKept have) = ⊥

-- why a spill isn't read back: bytes that are altered come only from a folder that doesn't tell
abbrev pub ReadCause : FolderView → FolderView → Part → ℕ → List ℕ → FetchFault → Type 0
ReadCause old new at p digest fault.StoreFailed = Rose old.gets new.gets
ReadCause old new at p digest fault.NoMemory = Unit {0}
ReadCause old new at p digest (fault.NotKept have) = ⊥
ReadCause old new at p digest (fault.Damaged place kept found) = (old.held ≡ None) × (bytes : List ℕ) × OpenedCause at p digest bytes (fault.Damaged place kept found)
ReadCause old new at p digest (fault.Collides range place) = (old.held ≡ None) × (bytes : List ℕ) × OpenedCause at p digest bytes (fault.Collides range place)

-- why one of some spills isn't read back
abbrev pub ReadsCause : FolderView → FolderView → ℕ → ℕ → ℕ → List Kept → FetchFault → Type 0
ReadsCause old new split attempt p spills e =
    (e ≡ fault.NoMemory) ⊎ ((kept : Kept) × Contains spills kept × ReadCause old new (range_of split attempt kept) p kept.digest e)
