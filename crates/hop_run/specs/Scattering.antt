-- Pairs that are parted by the partitions of their keys.
use Rattle.std.specs.Prelude.{◌≡◌, ℕ, List, [], ◌∷◌, ◌++◌}
use Rattle.hop_base.specs.declared.part.Part.{Part}
use Rattle.hop_base.specs.declared.value.Pair.{Pair}
use Rattle.hop_base.specs.Meaning.{Meaning}
use Rattle.hop_laws.specs.Partition.{of_partition}
use Rattle.hop_laws.specs.Stands.{combined_pairs}
use Rattle.hop_run.specs.Runs.{RunValue}

-- the list of one partition has its pairs more, and its number and how many there are stay
pub record Keeps (p r : ℕ) (old : List Pair) (pairs : List Pair) (p' r' : ℕ) (new : List Pair) : Type 0 where
  pub same_p : p' ≡ p
  pub same_r : r' ≡ r
  pub more : new ≡ old ++ of_partition p r pairs

-- the combined run of a part whose pairs these are
abbrev pub combined_list : Meaning → Part → List Pair → RunValue
combined_list meaning part pairs = record { sheet = combined_pairs meaning.combined pairs; parts = part ∷ [] }
