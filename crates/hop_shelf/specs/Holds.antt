-- What a run holds.
use Rattle.std.specs.Prelude.{ℕ, List, All}
use Rattle.hop_base.specs.declared.value.Val.{Val}
use Rattle.hop_base.specs.declared.value.Pair.{Pair}
use Rattle.hop_base.specs.declared.part.Part.{Part}
use Rattle.hop_base.specs.Order.{IsValidPair}
use Rattle.hop_run.specs.Runs.{RunValue, RunStands}

-- the run's pairs are within the limits, and it stands for its parts
pub record RunHolds (reduce : List ℕ → List Val → List ℕ) (pairs_of : Part → List Pair) (run : RunValue) : Type 0 where
  pub valid : All IsValidPair run.sheet
  pub stands : RunStands reduce pairs_of run
