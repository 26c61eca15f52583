-- The spills that a vault keeps, by split and attempt.
use Rattle.std.specs.Prelude.{Vec, map, take, ◌≡◌, ℕ, ◌-◌, ◌<◌, ◌==◌, ◌&&◌, List, [], ◌∷◌, ◌++◌, length, slice_get, slice_index_or, unwrap_or, if◌then◌else◌}
use Rattle.std.specs.Option.{option_map}
use Rattle.hop_base.specs.declared.part.Part.{Part}
use Rattle.hop_vault.specs.declared.kept.Kept.{Kept}

-- lists without where they lie in memory
abbrev pub lists_of : {X A : Type 0} → List (Vec X A) → List (List X)
lists_of lists = map (λ list. list.items) lists

-- the i-th of some lists, or none of its items
abbrev pub list_at : {X : Type 0} → List (List X) → ℕ → List X
list_at lists i = slice_index_or lists i []

-- the kept spills of each attempt of each split
abbrev pub Table : Type 0
Table = List (List (List Kept))

-- those of an attempt, in order
abbrev pub row_of : Table → ℕ → ℕ → List Kept
row_of rows split attempt = list_at (list_at rows split) attempt

-- where they end: 0 where there are none
abbrev pub end_of : List Kept → ℕ
end_of row = unwrap_or (option_map (λ (kept : Kept). kept.to) (slice_get row (length row - 1))) 0

-- the kept end of an attempt
abbrev pub kept_end : Table → ℕ → ℕ → ℕ
kept_end rows split attempt = end_of (row_of rows split attempt)

-- the range of a kept spill
abbrev pub range_of : ℕ → ℕ → Kept → Part
range_of split attempt kept = record { split = split; attempt = attempt; from = kept.from; to = kept.to }

-- the ranges follow each other, from here to there
abbrev pub IsChain : ℕ → List Kept → ℕ → Type 0
IsChain from [] to = from ≡ to
IsChain from (kept ∷ row) to = (kept.from ≡ from) × (from < kept.to) × IsChain kept.to row to

-- these are the spills of a row whose ranges together are this range, of which there are some
pub record IsStretch (row : List Kept) (from to : ℕ) (spills : List Kept) : Type 0 where
  pub before : List Kept
  pub after : List Kept
  pub parts : row ≡ before ++ (spills ++ after)
  pub chain : IsChain from spills to
  pub some : from < to

-- no spills of the row are
abbrev pub NoStretch : List Kept → ℕ → ℕ → Type 0
NoStretch row from to = (spills : List Kept) → IsStretch row from to spills → ⊥

-- all but the last
abbrev pub all_but_last : {X : Type 0} → List X → List X
all_but_last xs = take (length xs - 1) xs

-- each attempt has the same spills
abbrev pub SameRows : Table → Table → Type 0
SameRows old new = (i a : ℕ) → row_of new i a ≡ row_of old i a

-- an attempt has one spill more, and each other one has the same
abbrev pub AddsTo : Table → Table → ℕ → ℕ → Kept → Type 0
AddsTo old new split attempt kept =
    (i a : ℕ) → row_of new i a ≡ (if (i == split) && (a == attempt) then row_of old i a ++ kept ∷ [] else row_of old i a)

-- an attempt lacks its last spill, and each other one has the same
abbrev pub TakesFrom : Table → Table → ℕ → ℕ → Type 0
TakesFrom old new split attempt =
    (i a : ℕ) → row_of new i a ≡ (if (i == split) && (a == attempt) then all_but_last (row_of old i a) else row_of old i a)

-- one of the lists is changed, and each other one is the same
abbrev pub Changes : {X : Type 0} → List (List X) → List (List X) → ℕ → (List X → List X) → Type 0
Changes old new at change = (i : ℕ) → list_at new i ≡ (if i == at then change (list_at old i) else list_at old i)

-- each of the lists is the same
abbrev pub SameLists : {X : Type 0} → List (List X) → List (List X) → Type 0
SameLists old new = (i : ℕ) → list_at new i ≡ list_at old i
