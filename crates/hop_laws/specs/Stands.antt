-- What a sheet stands for.
use Rattle.std.specs.Prelude.{◌≡◌, ℕ, List, ◌++◌, map, All}
use Rattle.hop_base.specs.declared.value.Val.{Val}
use Rattle.hop_base.specs.declared.value.Pair.{Pair}
use Rattle.hop_base.specs.Order.{val_cmp, IsValid, IsValidPair}
use Rattle.hop_base.specs.Sorted.{ord}
use Rattle.hop_laws.specs.Groups.{values_of, keys_of, for_each_key}

-- The sheet has the keys of the pairs, and whatever values join those of a key, reduce gives the same of both. What is said here of reduce may be said of
-- combine too.
pub record StandsFor {X : Type 0} (reduce : List ℕ → List Val → X) (sheet pairs : List Pair) : Type 0 where
  pub same_keys : keys_of sheet ≡ keys_of pairs
  pub same_reduce : (k : List ℕ) (ws : List Val) → All IsValid ws → reduce k (ord val_cmp (values_of k sheet ++ ws)) ≡ reduce k (ord val_cmp (values_of k pairs ++ ws))

-- the new pairs stand for whatever the old ones stand for
abbrev pub KeepsStanding : (List ℕ → List Val → List ℕ) → List Pair → List Pair → Type 0
KeepsStanding reduce old new = (ps : List Pair) → StandsFor reduce old ps → StandsFor reduce new ps

-- the new pairs stand for whatever the old ones stand for, with some more
abbrev pub StandsWith : {X : Type 0} → (List ℕ → List Val → X) → List Pair → List Pair → List Pair → Type 0
StandsWith reduce old more new = (ps : List Pair) → All IsValidPair ps → StandsFor reduce old ps → StandsFor reduce new (ps ++ more)

-- the values under a key
abbrev pub pairs_at : List ℕ → List Val → List Pair
pairs_at k vs = map (λ v. record { key = k; val = v }) vs

-- each key's values combined, the keys ascending
abbrev pub combined_pairs : (List ℕ → List Val → List Val) → List Pair → List Pair
combined_pairs combine ps = for_each_key (λ k vs. pairs_at k (combine k vs)) ps
