-- The records of a part, one after the other.
use Rattle.std.proofs.Common.{◌≡◌, ℕ, ◌+◌, ◌-◌, ◌*◌, ◌<◌, ◌≤◌, List, [], ◌∷◌, ◌++◌, length, take, drop, get_or, refl, ap, ◌∙◌, arith}
use Rattle.std.specs.List.{flat_map}
use Rattle.std.proofs.lemmas.List.Concat.{flat_map-append}
use Rattle.std.proofs.lemmas.List.{append-nil, take_more, take-take, drop-take, drop-drop, length-take, length-drop, get_or-drop}
use Rattle.hop_base.specs.declared.part.Part.{Part}
use Rattle.hop_base.specs.Meaning.{Meaning}
use Rattle.hop_laws.specs.Blocking.{part_records}
use Rattle.hop_records.specs.Records.{BookValue, split_records, len_of}

-- no record
pub mapped_none : (meaning : Meaning) (rs : List (List ℕ)) (from : ℕ) → flat_map meaning.emits (take (from - from) (drop from rs)) ≡ []
mapped_none meaning rs from =
    let z : from - from ≡ 0 = omega arith in
    ap (λ n. flat_map meaning.emits (take n (drop from rs))) z ∙ ap (flat_map meaning.emits) (take_none (drop from rs))
  where
    take_none : (xs : List (List ℕ)) → take 0 xs ≡ []
    take_none [] = refl
    take_none (x ∷ xs) = refl

-- one more record
pub mapped_more : (meaning : Meaning) (rs : List (List ℕ)) (from k : ℕ) (line : List ℕ) → from ≤ k → k < length rs → get_or rs k [] ≡ line
    → flat_map meaning.emits (take ((k + 1) - from) (drop from rs)) ≡ flat_map meaning.emits (take (k - from) (drop from rs)) ++ meaning.emits line
mapped_more meaning rs from k line low high here =
    let n : (k + 1) - from ≡ (k - from) + 1 = omega arith in
    let place : from + (k - from) ≡ k = omega arith in
    let item : get_or (drop from rs) (k - from) [] ≡ line = get_or-drop from rs (k - from) [] ∙ ap (λ i. get_or rs i []) place ∙ here in
    let inside : k - from < length (drop from rs) = omega (arith, length-drop from rs) in
    let before : List (List ℕ) = take (k - from) (drop from rs) in
    let whole : take ((k + 1) - from) (drop from rs) ≡ before ++ line ∷ [] =
    ap (λ i. take i (drop from rs)) n ∙ take_more (drop from rs) (k - from) [] inside ∙ ap (λ x. before ++ x ∷ []) item in
    ap (flat_map meaning.emits) whole ∙ flat_map-append meaning.emits before (line ∷ []) ∙ ap (λ ps. flat_map meaning.emits before ++ ps) (append-nil (meaning.emits line))

len_within : (book : BookValue) (i : ℕ) → len_of book i ≤ book.split
len_within book i = omega (arith, length-take book.split (drop (i * book.split) book.records))

-- the records of a part are those of its split from one place to another
pub part_in_split : (book : BookValue) (part : Part) → part.from ≤ part.to → part.to ≤ len_of book part.split → take (part.to - part.from) (drop part.from (split_records book part.split)) ≡ part_records book.records book.split part
part_in_split book part ordered within =
    let n : ℕ = book.split in
    let before : List (List ℕ) = drop (part.split * n) book.records in
    let sum : n ≡ part.from + (n - part.from) = omega (arith, len_within book part.split) in
    let le : part.to - part.from ≤ n - part.from = omega (arith, len_within book part.split) in
    ap (λ m. take (part.to - part.from) (drop part.from (take m before))) sum
    ∙ ap (take (part.to - part.from)) (drop-take part.from (n - part.from) before)
    ∙ take-take (part.to - part.from) (n - part.from) (drop part.from before) le
    ∙ ap (take (part.to - part.from)) (drop-drop part.from (part.split * n) book.records)
