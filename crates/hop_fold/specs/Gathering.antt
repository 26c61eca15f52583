-- Lists of pairs, one for each partition, that stand for what map emits.
use Rattle.std.specs.Prelude.{ℕ, ◌<◌, List, [], length, slice_index_or, All}
use Rattle.hop_base.specs.declared.value.Pair.{Pair}
use Rattle.hop_base.specs.Meaning.{Meaning}
use Rattle.hop_base.specs.Order.{IsValidPair}
use Rattle.hop_laws.specs.Blocking.{emitted}
use Rattle.hop_laws.specs.Stands.{StandsFor}

-- each list stands for what map emits for the records in its partition
pub record Gathers (meaning : Meaning) (records : List (List ℕ)) (lists : List (List Pair)) : Type 0 where
  pub valid : (p : ℕ) → All IsValidPair (emitted meaning records p (length lists))
  pub stands : (p : ℕ) → p < length lists → StandsFor meaning.reduced (slice_index_or lists p []) (emitted meaning records p (length lists))
