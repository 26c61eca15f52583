-- Pairs as bytes, with the places where they begin.
use Rattle.std.specs.Prelude.{◌≡◌, ℕ, ◌+◌, List, [], ◌∷◌, length, drop, map, All, IsSorted}
use Rattle.std.specs.List.{flat_map}
use Rattle.hop_base.specs.declared.value.Pair.{Pair}
use Rattle.hop_base.specs.Order.{IsValidPair, pair_cmp}
use Rattle.hop_base.specs.Fields.{pair_text, pair_front}

-- the texts of the pairs, joined
abbrev pub pairs_text : List Pair → List ℕ
pairs_text pairs = flat_map pair_text pairs

-- where the text of each of these pairs begins, the first one's there
abbrev pub starts_from : ℕ → List Pair → List ℕ
starts_from at [] = []
starts_from at (pair ∷ pairs) = at ∷ starts_from (at + length (pair_text pair)) pairs

-- the pairs whose texts begin at these places
abbrev pub pairs_in : List ℕ → List ℕ → List Pair
pairs_in bytes starts = map (λ at. pair_front (drop at bytes)) starts

-- the bytes are the text of the pairs, which begin at these places
pub record IsTextOf (bytes starts : List ℕ) (pairs : List Pair) : Type 0 where
  pub text : bytes ≡ pairs_text pairs
  pub places : starts ≡ starts_from 0 pairs
  pub valid : All IsValidPair pairs

-- the same of the pairs that begin there
abbrev pub IsText : List ℕ → List ℕ → Type 0
IsText bytes starts = IsTextOf bytes starts (pairs_in bytes starts)

-- the same, and the pairs are in order
pub record IsFlatSheet (bytes starts : List ℕ) : Type 0 where
  pub flat : IsText bytes starts
  pub sorted : IsSorted pair_cmp (pairs_in bytes starts)
