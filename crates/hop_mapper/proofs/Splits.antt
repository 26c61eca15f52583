-- How many records the splits of a run have.
use Rattle.std.proofs.Common.{◌≡◌, ℕ, ◌<◌, length, arith}
use Rattle.std.specs.Prelude.{slice_index}
use Rattle.std.proofs.lemmas.List.FromFn.{length-map-range_with_len, get_or-map-range_with_len}
use Rattle.hop_records.specs.Records.{BookValue, len_of, lens_of, splits_of}

module _ (book : BookValue) where
  -- there is a length for each split
  pub lens_count : length (lens_of book) ≡ splits_of book
  lens_count = length-map-range_with_len (len_of book) 0 (splits_of book)

  -- the length of a split
  pub lens_at : (i : ℕ) → i < length (lens_of book) → slice_index (lens_of book) i ≡ len_of book i
  lens_at i h = let c = lens_count in get_or-map-range_with_len (len_of book) 0 (splits_of book) i i 0 (omega arith) (omega arith)
