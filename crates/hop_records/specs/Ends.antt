-- Records kept as the places where they end.
use Rattle.std.specs.Prelude.{◌≡◌, ℕ, zero, suc, ◌+◌, ◌≤◌, List, [], ◌∷◌, length, slice_range}
use Rattle.hop_records.specs.Records.{records_of, BookValue, IsBook}
use Rattle.hop_records.specs.declared.book.Book.TheInside.{Inside}

-- the pieces of the bytes from `start` on that end at these places, with one byte between them
abbrev pub pieces_from : List ℕ → ℕ → List ℕ → List (List ℕ)
pieces_from bytes start [] = []
pieces_from bytes start (end ∷ ends) = slice_range bytes start end ∷ pieces_from bytes (end + 1) ends

-- each place is behind the one before it, the first not before `start`, and none is behind the last byte
abbrev pub EndsFrom : ℕ → ℕ → List ℕ → Type 0
EndsFrom len start [] = Unit {0}
EndsFrom len start (end ∷ ends) = (start ≤ end) × (end ≤ len) × EndsFrom len (end + 1) ends

-- where piece k begins, or where the next one would
abbrev pub start_of : ℕ → List ℕ → ℕ → ℕ
start_of start [] k = start
start_of start (end ∷ ends) zero = start
start_of start (end ∷ ends) (suc k) = start_of (end + 1) ends k

-- the places are those where the records of the bytes end
pub record AreEnds (bytes ends : List ℕ) : Type 0 where
  pub records : pieces_from bytes 0 ends ≡ records_of bytes
  pub ordered : EndsFrom (length bytes) 0 ends

-- the records of the kept bytes, and the size of a split
abbrev pub book_value : Inside → BookValue
book_value b = record { records = records_of b.bytes.items; split = b.split }

-- the kept places are the records' ends, and the records make a book
pub record IsKept (b : Inside) : Type 0 where
  pub small : length b.bytes.items ≤ 16777216
  pub ends : AreEnds b.bytes.items b.ends.items
  pub book : IsBook (book_value b)
