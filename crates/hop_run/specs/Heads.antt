-- Sheets that are being merged: of each its first pair and the later ones.
use Rattle.std.specs.Prelude.{List, ◌∷◌, IsSorted}
use Rattle.std.specs.List.{flat_map}
use Rattle.std.specs.declared.cmp.Ordering.{Ordering}
use Rattle.std.specs.Cmp.{IsTotalOrder}
use Rattle.std.proofs.lemmas.Cmp.{on_total, back_total}
use Rattle.hop_base.specs.declared.value.Pair.{Pair}
use Rattle.hop_base.specs.Order.{pair_cmp}
use Rattle.hop_base.specs.OrderLaws.{pair_total}
use Rattle.hop_base.specs.Sorted.{ord}

-- what is left of a sheet
pub record HeadValue : Type 0 where
  pub first : Pair
  pub later : List Pair

abbrev pub head_pairs : HeadValue → List Pair
head_pairs head = head.first ∷ head.later

-- the one whose first pair is least is the greatest
abbrev pub head_cmp : HeadValue → HeadValue → Ordering
head_cmp a b = pair_cmp b.first a.first

pub head_total : IsTotalOrder head_cmp
head_total = back_total (on_total (λ head. head.first) pair_total)

-- the pairs are in order
abbrev pub IsSortedHead : HeadValue → Type 0
IsSortedHead head = IsSorted pair_cmp (head_pairs head)

-- all pairs that are left, in order
abbrev pub merged_pairs : List HeadValue → List Pair
merged_pairs heads = ord pair_cmp (flat_map head_pairs heads)
