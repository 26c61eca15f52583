-- What the lists of the partitions stand for, while records are mapped.
use Rattle.std.proofs.Common.{◌≡◌, ℕ, suc, ◌+◌, ◌<◌, List, [], ◌∷◌, ◌++◌, length, map, get_or, refl, sym, ap, ◌∙◌, subst, arith}
use Rattle.std.specs.Prelude.{All, replicate}
use Rattle.std.specs.List.{range_with_len}
use Rattle.std.specs.List.Sorted.{IsPermutation}
use Rattle.std.proofs.lemmas.List.{get_or-replicate, length-replicate}
use Rattle.std.proofs.lemmas.List.Elements.{All-nil, All-append}
use Rattle.std.proofs.lemmas.List.Sorted.{IsPermutation-refl}
use Rattle.hop_base.specs.declared.value.Pair.{Pair}
use Rattle.hop_base.specs.declared.value.Val.{Val}
use Rattle.hop_base.specs.Meaning.{Meaning}
use Rattle.hop_base.specs.Order.{IsValidPair}
use Rattle.hop_laws.specs.Blocking.{emitted, blocking, blocking_texts}
use Rattle.hop_laws.specs.Groups.{red}
use Rattle.hop_laws.specs.Laws.{AlwaysCombinesWell, ReducesAlike}
use Rattle.hop_laws.specs.Partition.{of_partition}
use Rattle.hop_laws.specs.Stands.{StandsFor, KeepsStanding, combined_pairs}
use Rattle.hop_laws.proofs.Emitted.{emitted_more, valid_partition}
use Rattle.hop_laws.proofs.StandsLaws.{stands_sorted, stands_combined, stands_itself, stands_through, red_stands}
use Rattle.hop_laws.specs.Taking.{TakesIn}
use Rattle.hop_fold.specs.Gathering.{Gathers}

-- pairs in order stand for what the pairs stand for
pub sorted_stands : (reduce : List ℕ → List Val → List ℕ) (pairs sheet : List Pair) → IsPermutation pairs sheet → KeepsStanding reduce pairs sheet
sorted_stands reduce pairs sheet same = λ ps stands. stands_through reduce sheet pairs ps (stands_sorted reduce pairs sheet same) stands

-- combined pairs stand for what the pairs stand for
pub combined_stands : (combine : List ℕ → List Val → List Val) (reduce : List ℕ → List Val → List ℕ) (pairs sheet fewer : List Pair) → AlwaysCombinesWell combine → ReducesAlike combine reduce → IsPermutation pairs sheet → All IsValidPair sheet → fewer ≡ combined_pairs combine sheet → KeepsStanding reduce pairs fewer
combined_stands combine reduce pairs sheet fewer well alike same valid e = λ ps stands.
    stands_combined combine reduce sheet fewer ps well alike valid
    (subst (λ qs. IsPermutation (combined_pairs combine sheet) qs) (sym e) (IsPermutation-refl (combined_pairs combine sheet)))
    (sorted_stands reduce pairs sheet same ps stands)

-- ---- one more record

pub gathers_more : (meaning : Meaning) (records : List (List ℕ)) (line : List ℕ) (old new : List (List Pair)) → TakesIn meaning.reduced old (meaning.emits line) new → Gathers meaning records old → Gathers meaning (records ++ line ∷ []) new
gathers_more meaning records line old new t h =
    let r : ℕ = length old in
    let valid_new : (p : ℕ) → All IsValidPair (of_partition p r (meaning.emits line)) = λ p. valid_partition p r (meaning.emits line) t.valid in
    let valid : (p : ℕ) → All IsValidPair (emitted meaning (records ++ line ∷ []) p r) =
    λ p. subst (λ (ps : List Pair). All IsValidPair ps) (sym (emitted_more meaning records line p r)) (All-append IsValidPair (emitted meaning records p r) (of_partition p r (meaning.emits line)) (h.valid p) (valid_new p)) in
    let stands : (p : ℕ) → p < r → StandsFor meaning.reduced (get_or new p []) (emitted meaning (records ++ line ∷ []) p r) =
    λ p below.
    subst (λ (ps : List Pair). StandsFor meaning.reduced (get_or new p []) ps) (sym (emitted_more meaning records line p r))
    (t.stands p below (emitted meaning records p r) (h.valid p) (h.stands p below)) in
    record {
      valid = λ p. subst (λ n. All IsValidPair (emitted meaning (records ++ line ∷ []) p n)) (sym t.same) (valid p);
      stands = λ p below. subst (λ n. StandsFor meaning.reduced (get_or new p []) (emitted meaning (records ++ line ∷ []) p n)) (sym t.same) (stands p (omega (arith, t.same)));
    }

-- ---- the texts

map_by_index : {X : Type 0} (f : X → List ℕ) (g : ℕ → List ℕ) (d : X) (xs : List X) (a : ℕ) → ((i : ℕ) → i < length xs → f (get_or xs i d) ≡ g (a + i)) → map f xs ≡ map g (range_with_len a (length xs))
map_by_index f g d [] a h = refl
map_by_index f g d (x ∷ xs) a h =
    let z : a + 0 ≡ a = omega arith in
    ap (λ y. y ∷ map f xs) (h 0 (omega arith) ∙ ap g z)
    ∙ ap (λ ys. g a ∷ ys) (map_by_index f g d xs (a + 1) (λ i lt. let s : a + suc i ≡ a + 1 + i = omega arith in h (suc i) (omega arith) ∙ ap g s))

pub texts_gathered : (meaning : Meaning) (records : List (List ℕ)) (lists : List (List Pair)) (r : ℕ) → length lists ≡ r → Gathers meaning records lists → map (red meaning.reduced) lists ≡ blocking_texts meaning records r
texts_gathered meaning records lists r e h =
    map_by_index (red meaning.reduced) (λ p. blocking meaning records p (length lists)) [] lists 0
    (λ p below. let z : p ≡ 0 + p = omega arith in red_stands meaning.reduced (get_or lists p []) (emitted meaning records p (length lists)) (h.stands p below) ∙ ap (λ q. blocking meaning records q (length lists)) z)
    ∙ ap (blocking_texts meaning records) e

-- before the first record
pub gathers_none : (meaning : Meaning) (lists : List (List Pair)) (r : ℕ) → lists ≡ replicate r [] → Gathers meaning [] lists
gathers_none meaning lists r e =
    let same : length lists ≡ r = ap length e ∙ length-replicate r [] in
    record {
      valid = λ p. All-nil IsValidPair;
      stands = λ p below.
          let none : get_or lists p [] ≡ [] = ap (λ ls. get_or ls p []) e ∙ get_or-replicate r p [] [] (omega (arith, same)) in
          subst (λ ps. StandsFor meaning.reduced ps []) (sym none) (stands_itself meaning.reduced []);
    }
