-- Reading from left to right: what a field says with the bytes behind it, or, where reading fails, how
-- many bytes are left from the place where it fails.
use Rattle.std.specs.Prelude.{ℕ, zero, suc, ◌+◌, ◌-◌, Bool, false, not, ◌&&◌, List, [], ◌∷◌, length, take, drop, Option, Some, None, Result, Ok, Err, nat_lt, nat_le, ◌==◌, if◌then◌else◌}
use Rattle.std.specs.Int.{Width, w32, w64, byte_len, from_be_bytes}
use Rattle.std.specs.Ordering.{is_gt}
use Rattle.hop_base.specs.declared.value.Pair.{Pair}
use Rattle.hop_base.specs.Fields.{pair_of}
use Rattle.hop_base.specs.Order.{pair_cmp}
use Rattle.hop_laws.specs.Partition.{partition_of}
use Rattle.hop_spill.specs.declared.spill.Spill.{Spill}
use Rattle.hop_spill.specs.declared.decoding.Head.{Head}
use Rattle.hop_spill.specs.Spelling.{magic}

infixl 10 ◌>>=◌
abbrev pub ◌>>=◌ : {A B : Type 0} → Result A ℕ → (A → Result B ℕ) → Result B ℕ
(Ok x) >>= f = f x
(Err left) >>= f = Err left

-- a number
abbrev pub number_at : Width → List ℕ → Result (ℕ × List ℕ) ℕ
number_at w bytes = if nat_lt (length bytes) (byte_len w) then Err (length bytes) else Ok (from_be_bytes w (take (byte_len w) bytes), drop (byte_len w) bytes)

-- a number of four bytes, from low to high
unfoldable pub word_within : ℕ → ℕ → List ℕ → Result (ℕ × List ℕ) ℕ
word_within low high bytes = do
  n ← number_at w32 bytes
  if nat_le low n.0 && nat_le n.0 high then Ok n else Err (length bytes)

-- bytes behind their number: two fields, of at most 131,071 bytes
unfoldable pub blob_at : List ℕ → Result (List ℕ × List ℕ) ℕ
blob_at bytes = do
  n ← word_within 0 131071 bytes
  if nat_lt (length n.1) n.0 then Err (length n.1) else Ok (take n.0 n.1, drop n.0 n.1)

-- whether a pair is smaller than the one before it
abbrev pub is_smaller : Option Pair → Pair → Bool
is_smaller None pair = false
is_smaller (Some before) pair = is_gt (pair_cmp before pair)

-- whether a pair may stand here, in the sheet of partition p of r
abbrev pub may_follow : ℕ → ℕ → Option Pair → Pair → Bool
may_follow p r before pair = not (is_smaller before pair) && (partition_of pair.key r == p)

-- a pair; its order and its partition are tested after all its fields
unfoldable pub pair_at : ℕ → ℕ → Option Pair → List ℕ → Result (Pair × List ℕ) ℕ
pair_at p r before bytes = do
  key ← blob_at bytes
  n ← number_at w64 key.1
  text ← blob_at n.1
  if may_follow p r before (pair_of key.0 n.0 text.0) then Ok (pair_of key.0 n.0 text.0, text.1) else Err (length bytes)

-- so many pairs
unfoldable pub pairs_at : ℕ → ℕ → ℕ → Option Pair → List ℕ → Result (List Pair × List ℕ) ℕ
pairs_at zero p r before bytes = Ok ([], bytes)
pairs_at (suc count) p r before bytes = do
  first ← pair_at p r before bytes
  others ← pairs_at count p r (Some first.0) first.1
  Ok (first.0 ∷ others.0, others.1)

-- a sheet: the number of its pairs, and the pairs
unfoldable pub sheet_at : ℕ → ℕ → List ℕ → Result (List Pair × List ℕ) ℕ
sheet_at p r bytes = do
  count ← number_at w32 bytes
  pairs_at count.0 p r None count.1

-- so many sheets, from that of partition p on
unfoldable pub sheets_at : ℕ → ℕ → ℕ → List ℕ → Result (List (List Pair) × List ℕ) ℕ
sheets_at zero p r bytes = Ok ([], bytes)
sheets_at (suc count) p r bytes = do
  first ← sheet_at p r bytes
  others ← sheets_at count (p + 1) r first.1
  Ok (first.0 ∷ others.0, others.1)

-- the six fields of the head, each in its range
unfoldable pub head_at : List ℕ → Result (Head × List ℕ) ℕ
head_at bytes = do
  letters ← word_within magic magic bytes
  split ← word_within 0 1023 letters.1
  attempt ← word_within 0 15 split.1
  from ← word_within 0 16777215 attempt.1
  to ← word_within (from.0 + 1) 16777216 from.1
  reducers ← word_within 1 8 to.1
  Ok (record { split = split.0; attempt = attempt.0; from = from.0; to = to.0; reducers = reducers.0 }, reducers.1)

-- a spill, whatever follows it
unfoldable pub front_at : List ℕ → Result (Spill × List ℕ) ℕ
front_at bytes = do
  head ← head_at bytes
  sheets ← sheets_at head.0.reducers 0 head.0.reducers head.1
  Ok (record { split = head.0.split; attempt = head.0.attempt; from = head.0.from; to = head.0.to; sheets = sheets.0 }, sheets.1)

-- a spill that is all of the bytes
unfoldable pub spill_at : List ℕ → Result Spill ℕ
spill_at bytes = do
  spill ← front_at bytes
  if length spill.1 == 0 then Ok spill.0 else Err (length spill.1)

-- the place, of so many bytes, from which so many are left
abbrev pub placed : {A : Type 0} → ℕ → Result A ℕ → Result A ℕ
placed len (Ok x) = Ok x
placed len (Err left) = Err (len - left)

-- the spill whose text the bytes are, or the place where reading fails
abbrev pub read_spill : List ℕ → Result Spill ℕ
read_spill bytes = placed (length bytes) (spill_at bytes)
