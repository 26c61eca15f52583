-- Pairs that are gathered to be reduced.
use Rattle.std.specs.Prelude.{ℕ, List, All}
use Rattle.hop_base.specs.declared.value.Pair.{Pair}
use Rattle.hop_base.specs.declared.value.Val.{Val}
use Rattle.hop_base.specs.Order.{IsValidPair}
use Rattle.hop_laws.specs.Stands.{StandsFor}

-- the folded pairs stand for these, which are within the limits
pub record Folds (reduce : List ℕ → List Val → List ℕ) (folded pairs : List Pair) : Type 0 where
  pub valid : All IsValidPair pairs
  pub stands : StandsFor reduce folded pairs
