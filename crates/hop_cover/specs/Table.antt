-- The table of a coverage, and the histories that it stands for.
use Rattle.std.specs.Prelude.{◌≡◌, ℕ, ◌<◌, ◌≤◌, Bool, false, None, List, [], length, map, sum, All, slice_index, slice_index_or}
use Rattle.std.specs.List.{range_with_len}
use Rattle.hop_base.specs.Ranges.{AreLens}
use Rattle.hop_event.specs.declared.event.Event.{Event}
use Rattle.hop_event.specs.declared.event.Event.TheVariants.{Arrive, Ignore, Won, Revoked, Restart, Finish}
use Rattle.hop_event.specs.History.{upto, winner, is_revoked}
use Rattle.hop_event.specs.Coverage.{score_of}
use Rattle.hop_cover.specs.declared.row.Row.{Row}
use Rattle.hop_cover.specs.Rows.{row_declared, IsRow}

-- what contracts see of a coverage: the lengths of the splits, whether tentative data is wanted, and a row for each split
pub record Table : Type 0 where
  pub lens : List ℕ
  pub tentative : Bool
  pub rows : List Row

abbrev pub row_at : List Row → ℕ → Row
row_at rows i = slice_index_or rows i (record { winner = None; tries = [] })

-- the row says of the split what is read off the history
pub record RowStands (row : Row) (h : List Event) (i : ℕ) : Type 0 where
  pub winner : row.winner ≡ winner i h
  pub tries : (a : ℕ) → a < 16 → slice_index_or row.tries a (record { upto = 0; revoked = false }) ≡ record { upto = upto i a h; revoked = is_revoked i a h }

-- the table is the one that is read off the history
abbrev pub StandsFor : Table → List Event → Type 0
StandsFor t h = (i : ℕ) → i < length t.lens → RowStands (row_at t.rows i) h i

abbrev pub InTable : List ℕ → ℕ → ℕ → Type 0
InTable lens i a = (i < length lens) × (a < 16)

-- the event speaks of splits and attempts of the table, and an arrival is within its split
abbrev pub MayBeNoted : List ℕ → Event → Type 0
MayBeNoted lens (Arrive part via) = InTable lens part.split part.attempt × (part.to ≤ slice_index lens part.split)
MayBeNoted lens (Ignore part via have) = Unit {0}
MayBeNoted lens (Won i a) = InTable lens i a
MayBeNoted lens (Revoked i a) = InTable lens i a
MayBeNoted lens Restart = Unit {0}
MayBeNoted lens Finish = Unit {0}

-- the row is whole, and none of its attempts has more records than the split
pub record FitsSplit (row : Row) (len : ℕ) : Type 0 where
  pub whole : IsRow row
  pub within : All (λ t. t.upto ≤ len) row.tries

-- what is true of every coverage: a whole row for each split, and the sum of their scores
pub record IsSummed (lens : List ℕ) (tentative : Bool) (rows : List Row) (total : ℕ) : Type 0 where
  pub ranges : AreLens lens
  pub each : length rows ≡ length lens
  pub fits : (i : ℕ) → i < length lens → FitsSplit (row_at rows i) (slice_index lens i)
  pub scores : total ≡ sum (map (λ i. score_of lens i (row_declared tentative (row_at rows i))) (range_with_len 0 (length lens)))
