-- The records of an input, and their splits.
use Rattle.std.specs.Prelude.{ℕ, ◌≤◌, ◌<◌, ◌*◌, List, [], ◌∷◌, length, map, sum_by, take, drop, All, Bool, nat_lt, nat_eq, if◌then◌else◌, Option, None, Some, ◌≡◌}
use Rattle.std.specs.List.{position_from, range_with_len}
use Rattle.std.specs.Int.{div_ceil}
use Rattle.hop_records.specs.declared.book.BookFault.{BookFault}
use Rattle.hop_records.specs.declared.book.BookFault.TheVariants.{RecordTooLong, TooManySplits, NoMemory}

-- the first record with one more byte at its front
abbrev pub with_byte : ℕ → List (List ℕ) → List (List ℕ)
with_byte c [] = (c ∷ []) ∷ []
with_byte c (first ∷ others) = (c ∷ first) ∷ others

-- the records of the bytes: each line feed ends one, and a last piece without one is a record if it has a byte
abbrev pub records_of : List ℕ → List (List ℕ)
records_of [] = []
records_of (c ∷ cs) = if nat_eq c 10 then [] ∷ records_of cs else with_byte c (records_of cs)

-- a record of more than 65,535 bytes
abbrev pub is_long : List ℕ → Bool
is_long bytes = nat_lt 65535 (length bytes)

-- the number of the first record that is too long
abbrev pub first_long : List (List ℕ) → Option ℕ
first_long rs = position_from is_long 0 rs

-- a record within the limit
abbrev pub IsShort : List ℕ → Type 0
IsShort bytes = length bytes ≤ 65535

-- how many splits of n records so many records make, where the last may have fewer
abbrev pub split_count : ℕ → ℕ → ℕ
split_count n records = div_ceil records n

-- the records of an input, and how many of them a split has
pub record BookValue : Type 0 where
  pub records : List (List ℕ)
  pub split : ℕ

-- how many splits there are
abbrev pub splits_of : BookValue → ℕ
splits_of book = split_count book.split (length book.records)

-- the records of split i
abbrev pub split_records : BookValue → ℕ → List (List ℕ)
split_records book i = take book.split (drop (i * book.split) book.records)

-- how many records split i has
abbrev pub len_of : BookValue → ℕ → ℕ
len_of book i = length (split_records book i)

-- how many records each split has
abbrev pub lens_of : BookValue → List ℕ
lens_of book = map (len_of book) (range_with_len 0 (splits_of book))

-- how many spills the splits make, where a spill has so many records and the last of a split may have fewer
abbrev pub spill_count : BookValue → ℕ → ℕ
spill_count book spill = sum_by (λ len. div_ceil len spill) (lens_of book)

-- why records make no book: the first long one comes before the number of splits
abbrev pub BookCause : List (List ℕ) → ℕ → BookFault → Type 0
BookCause rs split (RecordTooLong index) = first_long rs ≡ Some index
BookCause rs split (TooManySplits count) = (first_long rs ≡ None) × (count ≡ split_count split (length rs)) × (1024 < count)
BookCause rs split NoMemory = Unit {0}

-- what the records of a book are known to be
pub record IsBook (book : BookValue) : Type 0 where
  pub short : All IsShort book.records
  pub few : length book.records ≤ 16777216
  pub some : 1 ≤ book.split
  pub splits : splits_of book ≤ 1024
