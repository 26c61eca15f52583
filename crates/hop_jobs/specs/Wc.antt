-- The job that counts words.
use Rattle.std.specs.Prelude.{ℕ, Bool, true, false, ◌==◌, ◌||◌, List, [], ◌∷◌, map, filter, codes}
use Rattle.std.specs.List.{slice_split}
use Rattle.hop_base.specs.declared.value.Pair.{Pair}
use Rattle.hop_base.specs.Meaning.{Meaning}
use Rattle.hop_jobs.specs.Adding.{number, sum_combined, sum_reduced}

-- a part that is not empty
abbrev pub is_some_part : List ℕ → Bool
is_some_part [] = false
is_some_part (b ∷ bs) = true

-- the maximal pieces without space and tab
abbrev pub pieces_of : List ℕ → List (List ℕ)
pieces_of line = filter is_some_part (slice_split (λ b. b == 32 || b == 9) line)

-- a piece with the number 1
abbrev pub piece_pair : List ℕ → Pair
piece_pair piece = record { key = piece; val = number 1 }

-- each piece with the number 1
abbrev pub wc_emits : List ℕ → List Pair
wc_emits line = map piece_pair (pieces_of line)

-- words are counted, and the counts added up
abbrev pub wc_meaning : Meaning
wc_meaning = record { name = codes "wc"; emits = wc_emits; combined = sum_combined; reduced = sum_reduced }
