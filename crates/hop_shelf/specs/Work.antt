-- Runs that are lent to be merged, and their merge.
use Rattle.std.specs.Prelude.{◌≡◌, ◌≢◌, ℕ, Bool, List, ◌++◌, IsTrue}
use Rattle.hop_base.specs.declared.value.Val.{Val}
use Rattle.hop_base.specs.declared.value.Pair.{Pair}
use Rattle.hop_base.specs.declared.part.Part.{Part}
use Rattle.hop_run.specs.Runs.{RunValue}
use Rattle.hop_shelf.specs.Holds.{RunHolds}

-- what contracts see of lent runs: the number of the shelf, and two runs with their numbers there
pub record WorkValue : Type 0 where
  pub p : ℕ
  pub a : ℕ
  pub first : RunValue
  pub b : ℕ
  pub second : RunValue

-- what is true of all lent runs
pub record IsWork (tells : Bool) (reduce : List ℕ → List Val → List ℕ) (pairs_of : Part → List Pair) (a : ℕ) (first : RunValue) (b : ℕ) (second : RunValue) : Type 0 where
  pub apart : a ≢ b
  pub first_stands : IsTrue tells → RunHolds reduce pairs_of first
  pub second_stands : IsTrue tells → RunHolds reduce pairs_of second

-- lent runs with a merge of the two
pub record MergedValue : Type 0 where
  pub work : WorkValue
  pub run : RunValue

-- the merge has the parts of the two, and stands for them
pub record IsMergeOf (tells : Bool) (reduce : List ℕ → List Val → List ℕ) (pairs_of : Part → List Pair) (work : WorkValue) (run : RunValue) : Type 0 where
  pub apart : work.a ≢ work.b
  pub parts : run.parts ≡ work.first.parts ++ work.second.parts
  pub stands : IsTrue tells → RunHolds reduce pairs_of run
