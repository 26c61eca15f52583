-- What is kept of a split.
use Rattle.std.specs.Prelude.{◌≡◌, ℕ, ◌<◌, Bool, false, if◌then◌else◌, Option, List, length, map, IfSome, slice_index_or}
use Rattle.hop_event.specs.declared.declared.Declared.{Declared}
use Rattle.hop_event.specs.Coverage.{leader, declared_by}
use Rattle.hop_cover.specs.declared.row.Try.{Try}
use Rattle.hop_cover.specs.declared.row.Row.{Row}

abbrev pub try_at : List Try → ℕ → Try
try_at tries a = slice_index_or tries a (record { upto = 0; revoked = false })

abbrev pub live_records : List Try → ℕ → ℕ
live_records tries a = if (try_at tries a).revoked then 0 else (try_at tries a).upto

abbrev pub tentative_of : List Try → Option Declared
tentative_of tries = leader (live_records tries) 16

-- what the row declares
abbrev pub row_declared : Bool → Row → Option Declared
row_declared tentative row = declared_by row.winner tentative (live_records row.tries) (λ a. (try_at row.tries a).upto)

-- a row has its attempts
pub record IsRow (row : Row) : Type 0 where
  pub sixteen : length row.tries ≡ 16
  pub winner : IfSome row.winner (λ a. a < 16)

abbrev pub cleared_try : Try → Try
cleared_try t = record { upto = 0; revoked = t.revoked }

abbrev pub cleared : Row → Row
cleared row = record { winner = row.winner; tries = map cleared_try row.tries }
