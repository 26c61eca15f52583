-- Parts of attempts, in the order of their beginnings.
use Rattle.std.specs.Prelude.{◌≡◌, ℕ, ◌<◌, Bool, List, [], ◌∷◌, filter}
use Rattle.std.specs.declared.cmp.Ordering.{Ordering}
use Rattle.std.specs.Ordering.{nat_cmp, ordering_then}
use Rattle.hop_base.specs.Sorted.{ord}
use Rattle.hop_base.specs.declared.part.Part.{Part}
use Rattle.hop_event.specs.History.{same_attempt}

-- by split, attempt, beginning and end
abbrev pub part_cmp : Part → Part → Ordering
part_cmp a b = ordering_then (nat_cmp a.split b.split) (ordering_then (nat_cmp a.attempt b.attempt) (ordering_then (nat_cmp a.from b.from) (nat_cmp a.to b.to)))

abbrev pub is_of : ℕ → ℕ → Part → Bool
is_of i a q = same_attempt q.split q.attempt i a

-- the attempt's parts among these, in the order of their beginnings
abbrev pub parts_of : ℕ → ℕ → List Part → List Part
parts_of i a qs = ord part_cmp (filter (is_of i a) qs)

-- each part begins where the one before it ends, from here to there
abbrev pub IsChain : ℕ → ℕ → List Part → Type 0
IsChain from to [] = from ≡ to
IsChain from to (q ∷ qs) = (q.from ≡ from) × (q.from < q.to) × IsChain q.to to qs
