-- What map emits for records.
use Rattle.std.proofs.Common.{◌≡◌, ℕ, ◌+◌, ◌-◌, ◌*◌, ◌≤◌, List, [], ◌∷◌, ◌++◌, length, drop, ap, ◌∙◌}
use Rattle.std.specs.Prelude.{All, ◌==◌}
use Rattle.std.specs.List.{flat_map}
use Rattle.std.proofs.lemmas.List.{append-nil}
use Rattle.std.proofs.lemmas.List.Concat.{flat_map-append}
use Rattle.std.proofs.lemmas.List.Elements.{All-nil, All-append, All-head, All-tail, All-take, All-drop, All-filter, filter-append}
use Rattle.hop_base.specs.declared.part.Part.{Part}
use Rattle.hop_base.specs.declared.value.Pair.{Pair}
use Rattle.hop_base.specs.Meaning.{Meaning}
use Rattle.hop_base.specs.Order.{IsValidPair}
use Rattle.hop_laws.specs.Blocking.{emitted, part_records, part_pairs}
use Rattle.hop_laws.specs.Laws.{IsLawful}
use Rattle.hop_laws.specs.Partition.{partition_of, of_partition}

-- of some records and then others
pub emitted-append : (meaning : Meaning) (rs ss : List (List ℕ)) (p r : ℕ) → emitted meaning (rs ++ ss) p r ≡ emitted meaning rs p r ++ emitted meaning ss p r
emitted-append meaning rs ss p r =
    ap (of_partition p r) (flat_map-append meaning.emits rs ss)
    ∙ filter-append (λ (pair : Pair). partition_of pair.key r == p) (flat_map meaning.emits rs) (flat_map meaning.emits ss)

-- of one more record
pub emitted_more : (meaning : Meaning) (rs : List (List ℕ)) (line : List ℕ) (p r : ℕ) → emitted meaning (rs ++ line ∷ []) p r ≡ emitted meaning rs p r ++ of_partition p r (meaning.emits line)
emitted_more meaning rs line p r =
    emitted-append meaning rs (line ∷ []) p r
    ∙ ap (λ ps. emitted meaning rs p r ++ of_partition p r ps) (append-nil (meaning.emits line))

-- those of one partition are within the limits where all are
pub valid_partition : (p r : ℕ) (pairs : List Pair) → All IsValidPair pairs → All IsValidPair (of_partition p r pairs)
valid_partition p r pairs h = All-filter (λ (pair : Pair). partition_of pair.key r == p) IsValidPair pairs h

valid_all : (meaning : Meaning) → IsLawful meaning → (rs : List (List ℕ)) → All (λ line. length line ≤ 131050) rs → All IsValidPair (flat_map meaning.emits rs)
valid_all meaning laws [] h = All-nil IsValidPair
valid_all meaning laws (line ∷ rs) h =
    All-append IsValidPair (meaning.emits line) (flat_map meaning.emits rs)
    (laws.emits_well line (All-head (λ line. length line ≤ 131050) line rs h)).valid
    (valid_all meaning laws rs (All-tail (λ line. length line ≤ 131050) line rs h))

-- emitted pairs are within the limits
pub valid_emitted : (meaning : Meaning) → IsLawful meaning → (rs : List (List ℕ)) → All (λ line. length line ≤ 131050) rs → (p r : ℕ) → All IsValidPair (emitted meaning rs p r)
valid_emitted meaning laws rs h p r = valid_partition p r (flat_map meaning.emits rs) (valid_all meaning laws rs h)

-- those of each part too
pub valid_part : (meaning : Meaning) → IsLawful meaning → (rs : List (List ℕ)) → All (λ line. length line ≤ 131050) rs → (n p r : ℕ) (part : Part) → All IsValidPair (part_pairs meaning rs n p r part)
valid_part meaning laws rs h n p r part =
    valid_emitted meaning laws (part_records rs n part)
    (All-take (λ line. length line ≤ 131050) (part.to - part.from) (drop (part.split * n + part.from) rs) (All-drop (λ line. length line ≤ 131050) (part.split * n + part.from) rs h)) p r
