-- The spills of an attempt as a function of the job, the records and the ranges, and their files.
use Rattle.std.specs.Prelude.{ℕ, ◌+◌, ◌*◌, min, nat_le, List, ◌++◌, map, filter, codes, decimal}
use Rattle.std.specs.Int.{div_ceil}
use Rattle.std.specs.List.{range_with_len}
use Rattle.hop_base.specs.declared.part.Part.{Part}
use Rattle.hop_base.specs.declared.value.Pair.{Pair}
use Rattle.hop_base.specs.Meaning.{Meaning}
use Rattle.hop_laws.specs.Blocking.{part_pairs}
use Rattle.hop_laws.specs.Stands.{combined_pairs}
use Rattle.hop_spill.specs.declared.spill.Spill.{Spill}
use Rattle.hop_spill.specs.Spelling.{spill_text}

-- the name of the file of an attempt's spill that begins at this record of its split
abbrev pub name_of : ℕ → ℕ → ℕ → List ℕ
name_of split attempt from = codes "s-" ++ (decimal split ++ (codes "-" ++ (decimal attempt ++ (codes "-" ++ decimal from))))

-- the k-th range of s records of an attempt, whose split has so many
abbrev pub range_at : ℕ → ℕ → ℕ → ℕ → ℕ → Part
range_at split attempt len s k = record { split = split; attempt = attempt; from = k * s; to = min (k * s + s) len }

-- the ranges of s records of an attempt, the last one up to its split's end, that end at the kept end or before
abbrev pub ranges_of : ℕ → ℕ → ℕ → ℕ → ℕ → List Part
ranges_of split attempt len s kept = filter (λ (part : Part). nat_le part.to kept) (map (range_at split attempt len s) (range_with_len 0 (div_ceil len s)))

module _ (meaning : Meaning) (records : List (List ℕ)) (n r : ℕ) where
  -- the sheet of partition p: each key that map emits for the records of the range, ascending, with all its values combined at once
  abbrev pub sheet_made : Part → ℕ → List Pair
  sheet_made part p = combined_pairs meaning.combined (part_pairs meaning records n p r part)

  -- the spill of a range of an attempt
  abbrev pub spill_made : Part → Spill
  spill_made part = record { split = part.split; attempt = part.attempt; from = part.from; to = part.to; sheets = map (sheet_made part) (range_with_len 0 r) }

  -- its file, by its name
  abbrev pub file_made : Part → List ℕ × List ℕ
  file_made part = (name_of part.split part.attempt part.from, spill_text (spill_made part))

  -- the files of the spills of an attempt that ends at the kept end, where spills have s records
  abbrev pub files_made : ℕ → ℕ → ℕ → ℕ → ℕ → List (List ℕ × List ℕ)
  files_made split attempt len s kept = map file_made (ranges_of split attempt len s kept)
