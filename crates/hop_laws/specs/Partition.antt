-- The partition of a key.
use Rattle.std.specs.Prelude.{ℕ, ◌+◌, ◌*◌, ◌%◌, ◌^◌, ◌==◌, List, [], ◌∷◌, filter}
use Rattle.hop_base.specs.declared.value.Pair.{Pair}

-- the hash h of what came before, and of these bytes
abbrev pub hash_from : ℕ → List ℕ → ℕ
hash_from h [] = h
hash_from h (b ∷ bs) = hash_from ((31 * h + b) % 2 ^ 32) bs

-- the partition of a key among r
abbrev pub partition_of : List ℕ → ℕ → ℕ
partition_of key r = hash_from 0 key % r

-- the pairs whose keys have partition p of r
abbrev pub of_partition : ℕ → ℕ → List Pair → List Pair
of_partition p r pairs = filter (λ pair. partition_of pair.key r == p) pairs
