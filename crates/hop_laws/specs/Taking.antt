-- Lists of pairs, one for each partition, that take pairs.
use Rattle.std.specs.Prelude.{◌≡◌, ℕ, ◌<◌, List, [], length, slice_index_or, All}
use Rattle.hop_base.specs.declared.value.Pair.{Pair}
use Rattle.hop_base.specs.declared.value.Val.{Val}
use Rattle.hop_base.specs.Order.{IsValidPair}
use Rattle.hop_laws.specs.Partition.{of_partition}
use Rattle.hop_laws.specs.Stands.{StandsWith}

-- each list stands for the pairs of its partition more
pub record TakesIn {X : Type 0} (reduce : List ℕ → List Val → X) (old : List (List Pair)) (pairs : List Pair) (new : List (List Pair)) : Type 0 where
  pub same : length new ≡ length old
  pub valid : All IsValidPair pairs
  pub stands : (p : ℕ) → p < length old → StandsWith reduce (slice_index_or old p []) (of_partition p (length old) pairs) (slice_index_or new p [])
