-- When what is held can be sent, and what the vault has of it.
use Rattle.std.specs.Prelude.{◌≡◌, ℕ, ◌+◌, Bool, List, min, All, Option, Some, IfSome, slice_index}
use Rattle.std.specs.FinMap as map_of
use Rattle.sha2.specs.Sha256.{sha256}
use Rattle.hop_base.specs.declared.part.Part.{Part}
use Rattle.hop_base.specs.Files.{Files}
use Rattle.hop_base.specs.Meaning.{Meaning}
use Rattle.hop_base.specs.Run.{RunSettings}
use Rattle.hop_records.specs.Records.{lens_of}
use Rattle.hop_shelf.specs.Names.{book_of}
use Rattle.hop_spill.specs.declared.spill.Spill.{Spill}
use Rattle.hop_spill.specs.Spelling.{IsSpill, spill_text}
use Rattle.hop_spill.specs.SpillFiles.{name_of, spill_made}
use Rattle.hop_vault.specs.declared.kept.Kept.{Kept}
use Rattle.hop_vault.specs.Rows.{Table, row_of, kept_end, range_of, IsChain, IsStretch}
use Rattle.hop_machine.specs.step.Steps.{Verdicts}
use Rattle.hop_inner.specs.declared.message.Message.{Message}
use Rattle.hop_inner.specs.declared.message.Message.TheVariants.{Parcel as Parcels, Notice as Says}
use Rattle.hop_inner.specs.Messages.{FitsAt, FitsNotice}
use Rattle.hop_press.specs.declared.row.Row.{Row}
use Rattle.hop_press.specs.declared.row.Row.TheVariants.{Range, Notice}
use Rattle.hop_press.specs.Held.{LaneValue, lane_at}

-- the spills of each attempt follow each other from record 0
abbrev pub AreChained : Table → Type 0
AreChained table = (i a : ℕ) → IsChain 0 (row_of table i a) (kept_end table i a)

module _ (job : Meaning) (records : List (List ℕ)) (settings : RunSettings) where
  -- the spill that the run makes of the range of a kept one
  abbrev pub made_at : ℕ → ℕ → Kept → Spill
  made_at split attempt kept = spill_made job records settings.split settings.reducers (range_of split attempt kept)

  -- A kept spill has so many records as a spill has, or ends where its split ends. It has a sheet for each
  -- reducer, and the SHA-256 of the spill that the run makes of the range. Where the folder tells, its file is
  -- the text of that spill.
  pub record IsMade (held : Option Files) (split attempt : ℕ) (kept : Kept) : Type 0 where
    pub to_is : kept.to ≡ min (kept.from + settings.spill) (slice_index (lens_of (book_of records settings)) split)
    pub sheets_are : kept.sheets ≡ settings.reducers
    pub is_spill : IsSpill (made_at split attempt kept)
    pub digest_is : kept.digest ≡ sha256 (spill_text (made_at split attempt kept))
    pub text_is : IfSome held (λ files. map_of.get files (name_of split attempt kept.from) ≡ Some (spill_text (made_at split attempt kept)))

  -- The spills of each attempt follow each other from record 0, and are those that the run makes.
  pub record KeepsMade (held : Option Files) (table : Table) : Type 0 where
    pub chain : AreChained table
    pub made : (i a : ℕ) → All (IsMade held i a) (row_of table i a)

-- the range is one of whole kept spills, of which there are some
pub record IsWhole (table : Table) (part : Part) : Type 0 where
  pub spills : List Kept
  pub stretch : IsStretch (row_of table part.split part.attempt) part.from part.to spills

-- where a row is a range, it is one of whole kept spills
abbrev pub IsWholeRow : Table → {K : Type 0} → Row K → Type 0
IsWholeRow table (Range part) = IsWhole table part
IsWholeRow table (Notice i a known) = Unit {0}

-- a row is of whole kept spills, or a notice whose seat is of this board and knows what became of the attempt
abbrev pub FitsRow : Table → {K : Type 0} → (K → Verdicts) → (K → List ℕ) → List ℕ → Row K → Type 0
FitsRow table knows board name (Range part) = IsWhole table part
FitsRow table knows board name (Notice i a known) = FitsNotice i a (knows known) (board known) name

-- so of a row that may be joined to the one before it
abbrev pub FitsLast : Table → {K : Type 0} → (K → Verdicts) → (K → List ℕ) → List ℕ → Row K → Type 0
FitsLast table knows board name (Range part) = AreChained table × IsWhole table part
FitsLast table knows board name (Notice i a known) = FitsNotice i a (knows known) (board known) name

-- so of a message that may become such a row
abbrev pub FitsAsRow : Table → {K : Type 0} → (K → Verdicts) → (K → List ℕ) → List ℕ → Message K → Type 0
FitsAsRow table knows board name (Parcels x) = AreChained table × IsWhole table x.part
FitsAsRow table knows board name (Says i a known) = FitsNotice i a (knows known) (board known) name

module _ (job : Meaning) (records : List (List ℕ)) (settings : RunSettings) (tells : Bool) (table : Table) {K : Type 0} (knows : K → Verdicts) (board : K → List ℕ) (name : List ℕ) where
  -- the ready message may be sent to reducer p, and each row can become ready
  pub record LaneFits (p : ℕ) (lane : LaneValue K) : Type 0 where
    pub ready : IfSome lane.ready (FitsAt job records settings tells p knows board name)
    pub rows : All (FitsRow table knows board name) lane.rows

  -- so of each lane
  abbrev pub HeldFits : List (LaneValue K) → Type 0
  HeldFits lanes = (p : ℕ) → LaneFits p (lane_at lanes p)
