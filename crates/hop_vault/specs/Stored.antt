-- What the folder of a vault holds.
use Rattle.std.specs.Prelude.{◌≡◌, ℕ, ◌<◌, not, ◌==◌, List, [], ◌∷◌, length, Option, None, Some, Result, Ok, Err, IfSome, nat_le, slice_index_or, if◌then◌else◌}
use Rattle.std.specs.FinMap as map
use Rattle.sha2.specs.Sha256.{sha256}
use Rattle.hop_base.specs.declared.part.Part.{Part}
use Rattle.hop_base.specs.declared.value.Pair.{Pair}
use Rattle.hop_base.specs.Files.{Files}
use Rattle.hop_spill.specs.declared.spill.Spill.{Spill}
use Rattle.hop_spill.specs.Spelling.{IsSpill, spill_text}
use Rattle.hop_spill.specs.SpillFiles.{name_of}
use Rattle.hop_vault.specs.declared.kept.Kept.{Kept}

-- the spill has the range that was kept, and its text the digest
pub record IsTextOf (split attempt : ℕ) (kept : Kept) (spill : Spill) : Type 0 where
  pub is_spill : IsSpill spill
  pub split_is : spill.split ≡ split
  pub attempt_is : spill.attempt ≡ attempt
  pub from_is : spill.from ≡ kept.from
  pub to_is : spill.to ≡ kept.to
  pub digest_is : sha256 (spill_text spill) ≡ kept.digest

-- the text of a kept spill is held under its name
pub record IsStored (files : Files) (split attempt : ℕ) (kept : Kept) : Type 0 where
  pub spill : Spill
  pub text : IsTextOf split attempt kept spill
  pub sheets_are : length spill.sheets ≡ kept.sheets
  pub len_is : length (spill_text spill) ≡ kept.len
  pub held : map.get files (name_of split attempt kept.from) ≡ Some (spill_text spill)

-- the texts of these kept spills are
abbrev pub AreStored : Files → ℕ → ℕ → List Kept → Type 0
AreStored files split attempt [] = Unit {0}
AreStored files split attempt (kept ∷ row) = IsStored files split attempt kept × AreStored files split attempt row

-- The first of the fields split, attempt, from and to of a spill that differs from the range, or the field
-- of the reducers where it has no sheet p.
abbrev pub first_other : Part → ℕ → Spill → Option ℕ
first_other at p spill =
    if not (spill.split == at.split) then Some 4 else if not (spill.attempt == at.attempt) then Some 8 else if not (spill.from == at.from) then Some 12 else if not (spill.to == at.to) then Some 16 else if nat_le (length spill.sheets) p then Some 20 else None

-- where bytes are no spill text of the range that has a sheet p
abbrev pub other_place : Part → ℕ → Result Spill ℕ → Option ℕ
other_place at p (Ok spill) = first_other at p spill
other_place at p (Err place) = Some place

-- the sheet of partition p
abbrev pub sheet_of : Spill → ℕ → List Pair
sheet_of spill p = slice_index_or spill.sheets p []

-- A sheet is that of partition p of a spill text of the range with the digest that was kept; where the
-- folder tells, it is the text that it holds.
pub record IsFetched (held : Option Files) (split attempt p : ℕ) (kept : Kept) (sheet : List Pair) : Type 0 where
  pub spill : Spill
  pub text : IsTextOf split attempt kept spill
  pub within : p < length spill.sheets
  pub text_held : IfSome held (λ files. map.get files (name_of split attempt kept.from) ≡ Some (spill_text spill))
  pub sheet_is : sheet ≡ sheet_of spill p

-- the sheets are those of these kept spills, in order
abbrev pub AreFetched : Option Files → ℕ → ℕ → ℕ → List Kept → List (List Pair) → Type 0
AreFetched held split attempt p [] [] = Unit {0}
AreFetched held split attempt p (kept ∷ row) (sheet ∷ sheets) = IsFetched held split attempt p kept sheet × AreFetched held split attempt p row sheets
AreFetched held split attempt p [] (sheet ∷ sheets) = ⊥
AreFetched held split attempt p (kept ∷ row) [] = ⊥

-- spills of an attempt whose ranges follow each other from here to there, and whose texts are held under their names
abbrev pub AreHeldFrom : Files → ℕ → ℕ → ℕ → List Spill → ℕ → Type 0
AreHeldFrom files split attempt from [] to = from ≡ to
AreHeldFrom files split attempt from (spill ∷ spills) to =
    IsSpill spill × (spill.from ≡ from) × (map.get files (name_of split attempt from) ≡ Some (spill_text spill)) × AreHeldFrom files split attempt spill.to spills to
