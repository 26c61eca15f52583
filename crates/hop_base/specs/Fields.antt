-- The fields of a pair's text: numbers have their greatest byte first, and bytes stand behind their number.
use Rattle.std.specs.Prelude.{ℕ, List, ◌++◌, length, take, drop}
use Rattle.std.specs.Int.{w32, w64, to_be_bytes, from_be_bytes}
use Rattle.hop_base.specs.declared.value.Pair.{Pair}

-- a number of four bytes
unfoldable pub word : ℕ → List ℕ
word n = to_be_bytes w32 n

-- a number of eight bytes
unfoldable pub long : ℕ → List ℕ
long n = to_be_bytes w64 n

-- bytes, behind their number
unfoldable pub counted : List ℕ → List ℕ
counted bytes = word (length bytes) ++ bytes

-- a pair: its key, its number and its text
unfoldable pub pair_text : Pair → List ℕ
pair_text pair = counted pair.key ++ (long pair.val.n ++ counted pair.val.s)

-- the pair of these fields
abbrev pub pair_of : List ℕ → ℕ → List ℕ → Pair
pair_of key n text = record { key = key; val = record { n = n; s = text } }

-- the number of four bytes at the front
unfoldable pub word_front : List ℕ → ℕ
word_front bytes = from_be_bytes w32 (take 4 bytes)

-- the number of eight bytes at the front
unfoldable pub long_front : List ℕ → ℕ
long_front bytes = from_be_bytes w64 (take 8 bytes)

-- the bytes behind their number at the front
abbrev pub counted_front : List ℕ → List ℕ
counted_front bytes = take (word_front bytes) (drop 4 bytes)

-- what follows them
abbrev pub behind_counted : List ℕ → List ℕ
behind_counted bytes = drop (word_front bytes) (drop 4 bytes)

-- the pair whose text stands at the front
unfoldable pub pair_front : List ℕ → Pair
pair_front bytes =
    let rest = behind_counted bytes in
    pair_of (counted_front bytes) (long_front rest) (counted_front (drop 8 rest))
