-- The pieces of a spill's text, at whose beginnings reading may fail.
use Rattle.std.specs.Prelude.{◌≡◌, ◌≢◌, ◌⊎◌, ℕ, List, [], ◌∷◌, ◌++◌, length, map, take, drop}
use Rattle.std.specs.List.{flat_map, concat}
use Rattle.hop_base.specs.declared.value.Pair.{Pair}
use Rattle.hop_base.specs.Order.{IsValidPair}
use Rattle.hop_spill.specs.declared.spill.Spill.{Spill}
use Rattle.hop_base.specs.Fields.{word, long, pair_text}
use Rattle.hop_spill.specs.Spelling.{magic, IsSpill}

-- the six fields of the head
abbrev pub head_pieces : Spill → List (List ℕ)
head_pieces spill = word magic ∷ word spill.split ∷ word spill.attempt ∷ word spill.from ∷ word spill.to ∷ word (length spill.sheets) ∷ []

-- the number of a sheet's pairs, and each pair whole
abbrev pub sheet_pieces : List Pair → List (List ℕ)
sheet_pieces pairs = word (length pairs) ∷ map pair_text pairs

-- the fields of the head, and the pieces of each sheet
abbrev pub pieces : Spill → List (List ℕ)
pieces spill = head_pieces spill ++ flat_map sheet_pieces spill.sheets

-- the fields of a pair
abbrev pub pair_pieces : Pair → List (List ℕ)
pair_pieces pair = word (length pair.key) ∷ pair.key ∷ long pair.val.n ∷ word (length pair.val.s) ∷ pair.val.s ∷ []

-- the texts are some that are joined to these bytes, then this one, and others
pub record IsNext (texts : List (List ℕ)) (before text : List ℕ) : Type 0 where
  pub done : List (List ℕ)
  pub later : List (List ℕ)
  pub texts_are : texts ≡ done ++ (text ∷ later)
  pub before_is : before ≡ concat done

-- a field of a pair, not its first, behind those before it
pub record IsField (text inside field : List ℕ) : Type 0 where
  pub pair : Pair
  pub valid : IsValidPair pair
  pub text_is : text ≡ pair_text pair
  pub next : IsNext (pair_pieces pair) inside field
  pub some : inside ≢ []

-- a piece of the spill's text, or a field of one of its pairs that isn't the pair's first, behind these bytes
pub record GoesOnWith (spill : Spill) (before piece : List ℕ) : Type 0 where
  pub start : List ℕ
  pub text : List ℕ
  pub inside : List ℕ
  pub next : IsNext (pieces spill) start text
  pub place : ((inside ≡ []) × (piece ≡ text)) ⊎ IsField text inside piece
  pub before_is : before ≡ start ++ inside
  pub some : piece ≢ []

-- No spill's text that begins with the bytes before the place goes on with a piece that stands at the place.
abbrev pub StopsAt : List ℕ → ℕ → Type 0
StopsAt bytes place = (spill : Spill) (piece more : List ℕ) → IsSpill spill → GoesOnWith spill (take place bytes) piece → drop place bytes ≡ piece ++ more → ⊥
