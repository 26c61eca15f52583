-- The heads of keys: what most comparisons of keys need, as two numbers.
use Rattle.std.specs.Prelude.{ℕ, suc, zero, ◌+◌, ◌*◌, ◌%◌, List, [], ◌∷◌, ◌++◌, length, take, drop, min}
use Rattle.std.specs.Int.{w64, to_be_bytes}
use Rattle.hop_laws.specs.declared.head.Head.{Head}

-- the number that n and these bytes spell, the most significant first
abbrev pub spelled_bytes : ℕ → List ℕ → ℕ
spelled_bytes n [] = n
spelled_bytes n (b ∷ bs) = spelled_bytes (256 * n + b) bs

-- the first n bytes, where there are fewer with zeros behind them
abbrev pub padded : ℕ → List ℕ → List ℕ
padded zero bs = []
padded (suc n) [] = 0 ∷ padded n []
padded (suc n) (b ∷ bs) = b ∷ padded n bs

-- the first 15 bytes of a key, and its length up to 16
unfoldable pub head_of : List ℕ → Head
head_of key = record {
  first = spelled_bytes 0 (padded 8 key);
  second = spelled_bytes 0 (padded 7 (drop 8 key) ++ min (length key) 16 ∷ []);
}

-- the bytes of a head
abbrev pub head_bytes : Head → List ℕ
head_bytes head = to_be_bytes w64 head.first ++ to_be_bytes w64 head.second

-- the key that a head holds, if it has at most 15 bytes
unfoldable pub short_key : Head → List ℕ
short_key head = take (head.second % 256) (head_bytes head)
