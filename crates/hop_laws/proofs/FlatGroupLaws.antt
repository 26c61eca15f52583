-- Groups of pairs that are found by their places.
use Rattle.std.proofs.Common.{◌≡◌, ℕ, ◌+◌, ◌-◌, ◌<◌, ◌≤◌, List, [], ◌∷◌, ◌++◌, length, map, take, drop, get_or, false, ap, sym, subst, ◌∙◌, arith}
use Rattle.std.specs.Prelude.{IsSorted, slice_get, Some}
use Rattle.std.specs.Str.{bytes_eq}
use Rattle.std.proofs.lemmas.List.{drop_more, drop-drop, get_or-drop, length-drop, map_more}
use Rattle.std.proofs.lemmas.Option.{get_or_from_slice_get}
use Rattle.hop_base.specs.declared.value.Val.{Val}
use Rattle.hop_base.specs.declared.value.Pair.{Pair}
use Rattle.hop_base.specs.Order.{pair_cmp, val_cmp}
use Rattle.hop_laws.specs.Groups.{first_key, AllHaveKey, IsFirstGroup, for_each_key}
use Rattle.hop_laws.specs.Stands.{pairs_at, combined_pairs}
use Rattle.hop_laws.proofs.GroupLaws.{together_more, IsFirstGroup-from, sorted_drop, group_sorted, told_more, combined_more}

pub first_is : (ps : List Pair) (at : ℕ) (d : Pair) → at < length ps → first_key (drop at ps) ≡ (get_or ps at d).key
first_is ps at d lt = ap first_key (drop_more ps at d lt)

pub first_there : (ps : List Pair) (at : ℕ) (p : Pair) → at < length ps → slice_get ps at ≡ Some p → first_key (drop at ps) ≡ p.key
first_there ps at p lt there = first_is ps at p lt ∙ ap (λ (q : Pair). q.key) (get_or_from_slice_get ps at p p there)

get_behind : (ps : List Pair) (at end : ℕ) (d : Pair) → at < end → get_or (drop at ps) (end - at) d ≡ get_or ps end d
get_behind ps at end d lt = let e : at + (end - at) ≡ end = omega arith in get_or-drop at ps (end - at) d ∙ ap (λ n. get_or ps n d) e

pub together_next : (ps : List Pair) (at end : ℕ) (d : Pair) → at < end → end < length ps → AllHaveKey (first_key (drop at ps)) (take (end - at) (drop at ps)) → (get_or ps end d).key ≡ first_key (drop at ps) → AllHaveKey (first_key (drop at ps)) (take (end + 1 - at) (drop at ps))
together_next ps at end d some lt h same =
    let n : (end - at) + 1 ≡ end + 1 - at = omega arith in
    let inside : end - at < length (drop at ps) = omega (arith, length-drop at ps) in
    subst (λ k. AllHaveKey (first_key (drop at ps)) (take k (drop at ps))) n
    (together_more (first_key (drop at ps)) (drop at ps) (end - at) d inside h (ap (λ (q : Pair). q.key) (get_behind ps at end d some) ∙ same))

pub group_from : (ps : List Pair) (at end : ℕ) (d : Pair) → IsSorted pair_cmp ps → at < end → end ≤ length ps → AllHaveKey (first_key (drop at ps)) (take (end - at) (drop at ps)) → bytes_eq (first_key (drop at ps)) (get_or ps end d).key ≡ false → IsFirstGroup (drop at ps) (end - at)
group_from ps at end d sorted some within h other =
    IsFirstGroup-from (drop at ps) (end - at) d (sorted_drop ps at sorted) (omega arith) (omega (arith, length-drop at ps)) h
    (λ lt. ap (λ (q : Pair). bytes_eq (first_key (drop at ps)) q.key) (get_behind ps at end d some) ∙ other)

pub values_more : (ps : List Pair) (from k : ℕ) (vals vals' : List Val) (p : Pair) (v : Val) → from ≤ k → k < length ps → vals ≡ map (λ q. q.val) (take (k - from) (drop from ps)) → slice_get ps k ≡ Some p → v ≡ p.val → vals' ≡ vals ++ v ∷ []
    → vals' ≡ map (λ q. q.val) (take (k + 1 - from) (drop from ps))
values_more ps from k vals vals' p v le lt e there is more =
    let val_of : Pair → Val = λ q. q.val in
    let n : (k - from) + 1 ≡ k + 1 - from = omega arith in
    let at : from + (k - from) ≡ k = omega arith in
    let inside : k - from < length (drop from ps) = omega (arith, length-drop from ps) in
    let here : get_or (drop from ps) (k - from) p ≡ p = get_or-drop from ps (k - from) p ∙ ap (λ m. get_or ps m p) at ∙ get_or_from_slice_get ps k p p there in
    more
    ∙ ap (λ vs. vs ++ v ∷ []) e
    ∙ ap (λ w. map val_of (take (k - from) (drop from ps)) ++ w ∷ []) (is ∙ sym (ap val_of here))
    ∙ sym (map_more val_of (drop from ps) (k - from) p inside)
    ∙ ap (λ m. map val_of (take m (drop from ps))) n

pub values_sorted : (ps : List Pair) (at end : ℕ) (vals : List Val) → IsSorted pair_cmp ps → IsFirstGroup (drop at ps) (end - at) → vals ≡ map (λ q. q.val) (take (end - at) (drop at ps)) → IsSorted val_cmp vals
values_sorted ps at end vals sorted group e = subst (λ (vs : List Val). IsSorted val_cmp vs) (sym e) (group_sorted (drop at ps) (end - at) (sorted_drop ps at sorted) group)

later_is : (ps : List Pair) (at end : ℕ) → at < end → drop end ps ≡ drop (end - at) (drop at ps)
later_is ps at end lt = let e : at + (end - at) ≡ end = omega arith in ap (λ n. drop n ps) (sym e) ∙ sym (drop-drop (end - at) at ps)

-- one more group
pub group_told : {X : Type 0} (f : List ℕ → List Val → List X) (ps : List Pair) (at end : ℕ) (d : Pair) (key : List ℕ) (vals : List Val) (done done' all : List X) → IsSorted pair_cmp ps → at < end → end ≤ length ps → IsFirstGroup (drop at ps) (end - at) → key ≡ (get_or ps at d).key → vals ≡ map (λ q. q.val) (take (end - at) (drop at ps)) → done' ≡ done ++ f key vals → done ++ for_each_key f (drop at ps) ≡ all
    → done' ++ for_each_key f (drop end ps) ≡ all
group_told f ps at end d key vals done done' all sorted lt within group key_is vals_is more told =
    told_more f (drop at ps) (drop end ps) (end - at) key vals done done' (sorted_drop ps at sorted) group (first_is ps at d (omega arith) ∙ sym key_is) vals_is (later_is ps at end lt) more ∙ told

pub group_combined : (combine : List ℕ → List Val → List Val) (ps : List Pair) (at end : ℕ) (d : Pair) (key : List ℕ) (vals kept : List Val) (done done' all : List Pair) → IsSorted pair_cmp ps → at < end → end ≤ length ps → IsFirstGroup (drop at ps) (end - at) → key ≡ (get_or ps at d).key → vals ≡ map (λ q. q.val) (take (end - at) (drop at ps)) → kept ≡ combine key vals → done' ≡ done ++ pairs_at key kept → done ++ combined_pairs combine (drop at ps) ≡ all
    → done' ++ combined_pairs combine (drop end ps) ≡ all
group_combined combine ps at end d key vals kept done done' all sorted lt within group key_is vals_is kept_is more told =
    combined_more combine (drop at ps) (drop end ps) (end - at) key vals kept done done' (sorted_drop ps at sorted) group (first_is ps at d (omega arith) ∙ sym key_is) vals_is (later_is ps at end lt) kept_is more ∙ told
