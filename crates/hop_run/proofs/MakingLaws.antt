-- Combined runs of a part.
use Rattle.std.proofs.Common.{◌≡◌, ℕ, suc, ◌+◌, ◌<◌, ◌≤◌, Bool, true, false, cond, List, [], ◌∷◌, ◌++◌, length, map, get_or, refl, sym, ap, subst, ◌∙◌, arith}
use Rattle.std.specs.Prelude.{All, IsSorted, ◌==◌, replicate}
use Rattle.std.specs.List.{range_with_len}
use Rattle.std.proofs.lemmas.List.{append-nil, get_or-replicate, length-replicate}
use Rattle.std.proofs.lemmas.List.Elements.{All-nil}
use Rattle.std.proofs.lemmas.List.Sorted.{IsPermutation-refl}
use Rattle.hop_base.specs.declared.part.Part.{Part}
use Rattle.hop_base.specs.declared.value.Pair.{Pair}
use Rattle.hop_base.specs.declared.value.Val.{Val}
use Rattle.hop_base.specs.Meaning.{Meaning}
use Rattle.hop_base.specs.Order.{IsValidPair, pair_cmp}
use Rattle.hop_laws.specs.Blocking.{part_pairs}
use Rattle.hop_laws.specs.Laws.{IsLawful}
use Rattle.hop_laws.specs.Partition.{partition_of, of_partition}
use Rattle.hop_laws.specs.Stands.{StandsFor, combined_pairs}
use Rattle.hop_laws.specs.Taking.{TakesIn}
use Rattle.hop_laws.proofs.Emitted.{valid_part}
use Rattle.hop_laws.proofs.StandsLaws.{stands_itself, stands_combined, combined_alike}
use Rattle.hop_run.specs.Runs.{RunValue, RunStands, combined_run}
use Rattle.hop_run.specs.Scattering.{Keeps, combined_list}

-- ---- one more pair of the list of one partition

one_of : (p r : ℕ) (pair : Pair) (b : Bool) → (partition_of pair.key r == p) ≡ b → of_partition p r (pair ∷ []) ≡ cond b (pair ∷ []) []
one_of p r pair b e = ap (λ t. cond t (pair ∷ []) []) e

-- one more pair, which is of the partition that is kept
pub kept_one : (p r : ℕ) (old new : List Pair) (pair : Pair) → (partition_of pair.key r == p) ≡ true → new ≡ old ++ pair ∷ [] → Keeps p r old (pair ∷ []) p r new
kept_one p r old new pair e h = record { same_p = refl; same_r = refl; more = h ∙ ap (λ ps. old ++ ps) (sym (one_of p r pair true e)) }

-- or is not
pub kept_none : (p r : ℕ) (old : List Pair) (pair : Pair) → (partition_of pair.key r == p) ≡ false → Keeps p r old (pair ∷ []) p r old
kept_none p r old pair e = record { same_p = refl; same_r = refl; more = sym (append-nil old) ∙ ap (λ ps. old ++ ps) (sym (one_of p r pair false e)) }

-- ---- the runs of the lists

-- each list, when all pairs went to empty ones: to combine, it stands for those of its partition
pub scattered_lists : (combine : List ℕ → List Val → List Val) (old lists : List (List Pair)) (r : ℕ) (pairs : List Pair) → old ≡ replicate r [] → TakesIn combine old pairs lists → (length lists ≡ r) × ((p : ℕ) → p < r → combined_pairs combine (get_or lists p []) ≡ combined_pairs combine (of_partition p r pairs))
scattered_lists combine old lists r pairs e h =
    let n : length old ≡ r = ap length e ∙ length-replicate r [] in (
      h.same ∙ n,
      λ p below.
          let none : get_or old p [] ≡ [] = ap (λ ls. get_or ls p []) e ∙ get_or-replicate r p [] [] below in
          combined_alike combine (get_or lists p []) (of_partition p (length old) pairs)
          (h.stands p (omega (arith, n)) [] (All-nil IsValidPair) (subst (λ (ps : List Pair). StandsFor combine ps []) (sym none) (stands_itself combine [])))
          ∙ ap (λ m. combined_pairs combine (of_partition p m pairs)) n,
    )

-- the pairs of one partition went to an empty list
pub kept_all : (p r p0 r0 p' r' : ℕ) (old pairs new : List Pair) → old ≡ [] → p0 ≡ p → r0 ≡ r → Keeps p0 r0 old pairs p' r' new → new ≡ of_partition p r pairs
kept_all p r p0 r0 p' r' old pairs new e f g h =
    h.more ∙ ap (λ ps. ps ++ of_partition p0 r0 pairs) e ∙ ap (λ i. of_partition i r0 pairs) f ∙ ap (λ i. of_partition p i pairs) g

-- a builder of no pairs took some in order
pub sorted_given : (old new pairs : List Pair) → old ≡ [] → new ≡ old ++ pairs → IsSorted pair_cmp pairs → IsSorted pair_cmp new
sorted_given old new pairs e h sorted = subst (λ (ps : List Pair). IsSorted pair_cmp ps) (sym (h ∙ ap (λ ps. ps ++ pairs) e)) sorted

-- the run of one part with this sheet
abbrev run_of : Part → List Pair → RunValue
run_of part sheet = record { sheet = sheet; parts = part ∷ [] }

map_by_index : {X Y : Type 0} (f : X → Y) (g : ℕ → Y) (d : X) (xs : List X) (a : ℕ) → ((i : ℕ) → i < length xs → f (get_or xs i d) ≡ g (a + i)) → map f xs ≡ map g (range_with_len a (length xs))
map_by_index f g d [] a h = refl
map_by_index f g d (x ∷ xs) a h =
    let z : a + 0 ≡ a = omega arith in
    ap (λ y. y ∷ map f xs) (h 0 (omega arith) ∙ ap g z)
    ∙ ap (λ ys. g a ∷ ys) (map_by_index f g d xs (a + 1) (λ i lt. let s : a + suc i ≡ a + 1 + i = omega arith in h (suc i) (omega arith) ∙ ap g s))

-- the runs of the lists are those of the partitions
pub runs_scattered : (meaning : Meaning) (records : List (List ℕ)) (n r : ℕ) (part : Part) (lists : List (List Pair)) → (length lists ≡ r) × ((p : ℕ) → p < r → combined_pairs meaning.combined (get_or lists p []) ≡ combined_pairs meaning.combined (part_pairs meaning records n p r part)) → map (combined_list meaning part) lists ≡ map (combined_run meaning records n r part) (range_with_len 0 r)
runs_scattered meaning records n r part lists h =
    map_by_index (combined_list meaning part) (combined_run meaning records n r part) [] lists 0
    (λ p below. let z : p ≡ 0 + p = omega arith in ap (run_of part) (h.1 p (omega (arith, h.0))) ∙ ap (combined_run meaning records n r part) z)
    ∙ ap (λ m. map (combined_run meaning records n r part) (range_with_len 0 m)) h.0

pub combined_stands : (meaning : Meaning) (records : List (List ℕ)) (n r : ℕ) (part : Part) (p : ℕ) → IsLawful meaning → All (λ line. length line ≤ 131050) records → RunStands meaning.reduced (part_pairs meaning records n p r) (combined_run meaning records n r part p)
combined_stands meaning records n r part p laws short =
    let pairs : List Pair = part_pairs meaning records n p r part in
    let fewer : List Pair = combined_pairs meaning.combined pairs in
    subst (λ (ps : List Pair). StandsFor meaning.reduced fewer ps) (sym (append-nil pairs))
    (stands_combined meaning.combined meaning.reduced pairs fewer pairs laws.combines_well laws.reduces_alike (valid_part meaning laws records short n p r part) (IsPermutation-refl fewer) (stands_itself meaning.reduced pairs))
