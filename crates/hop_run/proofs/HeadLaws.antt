-- Merging sheets by their heads.
use Rattle.std.proofs.Common.{◌≡◌, ℕ, ◌+◌, ◌<◌, List, [], ◌∷◌, ◌++◌, length, take, drop, get_or, false, Ok, Err, refl, sym, ap, subst, ◌∙◌, arith, append_assoc}
use Rattle.std.specs.Prelude.{All, IsSorted, sum_by, slice_get, Some, OnOk, Result}
use Rattle.hop_laws.proofs.GroupLaws.{sorted_drop}
use Rattle.std.specs.BinaryHeap.{IsUpperBound}
use Rattle.std.specs.List.{AllByRecursion, flat_map}
use Rattle.std.specs.List.Sorted.{IsPermutation}
use Rattle.std.specs.declared.cmp.Ordering.{Ordering}
use Rattle.std.specs.declared.cmp.Ordering.TheVariants.{Less, Equal, Greater}
use Rattle.std.specs.Ordering.{is_gt, is_lt, ordering_reverse}
use Rattle.std.proofs.lemmas.Bool.{true≢false}
use Rattle.std.proofs.lemmas.List.{append-nil, nil_from_length, drop_more, take_more}
use Rattle.std.proofs.lemmas.List.Concat.{flat_map-append}
use Rattle.std.proofs.lemmas.Option.{get_or_from_slice_get}
use Rattle.std.proofs.lemmas.List.Elements.{All-from_recursion, recursion_from_All}
use Rattle.std.proofs.lemmas.List.Sums.{sum_by-cons}
use Rattle.std.proofs.lemmas.List.Sorted.{sum_by-IsPermutation, All-permutation}
use Rattle.hop_base.specs.declared.value.Pair.{Pair}
use Rattle.hop_base.specs.Order.{pair_cmp}
use Rattle.hop_base.specs.Sorted.{ord}
use Rattle.hop_base.proofs.OrderLaws.{pair_total, pair_exact}
use Rattle.hop_base.proofs.Sorted.{IsUptoAll, IsAscending, IsAscending-IsSorted, IsAscending-ord, count, count-append, count-ord, same_ascending, ord_same, ord_ascending}
use Rattle.hop_run.specs.Runs.{RunValue}
use Rattle.hop_run.specs.Heads.{HeadValue, head_pairs, head_cmp, IsSortedHead, merged_pairs}
use Rattle.hop_run.proofs.MergeLaws.{upto_ord, upto_append, upto_later}

-- a pair that is above none of the others comes first
first_of : (p : Pair) (rest : List Pair) → IsUptoAll pair_cmp p rest → ord pair_cmp (p ∷ rest) ≡ p ∷ ord pair_cmp rest
first_of p rest h =
    same_ascending pair_cmp pair_total pair_exact (ord pair_cmp (p ∷ rest)) (p ∷ ord pair_cmp rest)
    (IsAscending-ord pair_cmp pair_total (p ∷ rest))
    (upto_ord p rest h, IsAscending-ord pair_cmp pair_total rest)
    (record { counts = λ x. omega (arith, count-ord pair_cmp x (p ∷ rest), count-ord pair_cmp x rest) })

not_above : (p q : Ordering) → p ≡ ordering_reverse q → is_lt q ≡ false → is_gt p ≡ false
not_above p Less t e = absurd (true≢false e)
not_above p Equal t e = ap is_gt t
not_above p Greater t e = ap is_gt t

upto_heads : (x : HeadValue) (ys : List HeadValue) → AllByRecursion (λ y. is_lt (head_cmp x y) ≡ false) ys → AllByRecursion IsSortedHead ys → IsUptoAll pair_cmp x.first (flat_map head_pairs ys)
upto_heads x [] bound sorted = tt
upto_heads x (y ∷ ys) bound sorted =
    let e : is_gt (pair_cmp x.first y.first) ≡ false = not_above (pair_cmp x.first y.first) (pair_cmp y.first x.first) (pair_total.antisymm x.first y.first) bound.0 in
    let a : IsAscending pair_cmp (y.first ∷ y.later) = IsAscending-IsSorted pair_cmp pair_total (y.first ∷ y.later) sorted.0 in
    upto_append x.first (y.first ∷ y.later) (flat_map head_pairs ys) (e, upto_later x.first y.first y.later e a.0) (upto_heads x ys bound.1 sorted.1)

count_heads : (z : Pair) (hs : List HeadValue) → count pair_cmp z (flat_map head_pairs hs) ≡ sum_by (λ h. count pair_cmp z (head_pairs h)) hs
count_heads z [] = refl
count_heads z (h ∷ hs) =
    count-append pair_cmp z (head_pairs h) (flat_map head_pairs hs)
    ∙ ap (λ n. count pair_cmp z (head_pairs h) + n) (count_heads z hs)
    ∙ sym (sum_by-cons (λ g. count pair_cmp z (head_pairs g)) h hs)

-- heads in another order have the same pairs
same_heads : (xs ys : List HeadValue) → IsPermutation xs ys → (z : Pair) → count pair_cmp z (flat_map head_pairs xs) ≡ count pair_cmp z (flat_map head_pairs ys)
same_heads xs ys h z = count_heads z xs ∙ sym (sum_by-IsPermutation (λ g. count pair_cmp z (head_pairs g)) xs ys h) ∙ sym (count_heads z ys)

merged_alike : (xs ys : List HeadValue) → IsPermutation xs ys → merged_pairs xs ≡ merged_pairs ys
merged_alike xs ys h = ord_same pair_cmp pair_total pair_exact (flat_map head_pairs xs) (flat_map head_pairs ys) (record { counts = same_heads xs ys h })

least_first : (old mid : List HeadValue) (x : HeadValue) → IsPermutation old (x ∷ mid) → IsUpperBound head_cmp x mid → All IsSortedHead old → merged_pairs old ≡ x.first ∷ ord pair_cmp (x.later ++ flat_map head_pairs mid)
least_first old mid x perm bound all =
    let each : AllByRecursion IsSortedHead (x ∷ mid) = recursion_from_All IsSortedHead (x ∷ mid) (All-permutation IsSortedHead old (x ∷ mid) perm all) in
    let a : IsAscending pair_cmp (x.first ∷ x.later) = IsAscending-IsSorted pair_cmp pair_total (x.first ∷ x.later) each.0 in
    merged_alike old (x ∷ mid) perm
    ∙ first_of x.first (x.later ++ flat_map head_pairs mid) (upto_append x.first x.later (flat_map head_pairs mid) a.0 (upto_heads x mid bound each.1))

-- the least pair goes, and its sheet has more
pub step_more : (old mid new : List HeadValue) (x n : HeadValue) → IsPermutation old (x ∷ mid) → IsUpperBound head_cmp x mid → All IsSortedHead old → head_pairs n ≡ x.later → IsPermutation (n ∷ mid) new → merged_pairs old ≡ x.first ∷ merged_pairs new
step_more old mid new x n perm bound all next pushed =
    least_first old mid x perm bound all
    ∙ ap (λ ps. x.first ∷ ord pair_cmp (ps ++ flat_map head_pairs mid)) (sym next)
    ∙ ap (λ ps. x.first ∷ ps) (merged_alike (n ∷ mid) new pushed)

-- the least pair goes, which was the last one of its sheet
pub step_last : (old mid : List HeadValue) (x : HeadValue) → IsPermutation old (x ∷ mid) → IsUpperBound head_cmp x mid → All IsSortedHead old → x.later ≡ [] → merged_pairs old ≡ x.first ∷ merged_pairs mid
step_last old mid x perm bound all none =
    least_first old mid x perm bound all ∙ ap (λ ps. x.first ∷ ord pair_cmp (ps ++ flat_map head_pairs mid)) none

pub sorted_mid : (old mid : List HeadValue) (x : HeadValue) → IsPermutation old (x ∷ mid) → All IsSortedHead old → All IsSortedHead mid
sorted_mid old mid x perm all =
    All-from_recursion IsSortedHead mid (recursion_from_All IsSortedHead (x ∷ mid) (All-permutation IsSortedHead old (x ∷ mid) perm all)).1

pub sorted_pushed : (mid new : List HeadValue) (n : HeadValue) → IsPermutation (n ∷ mid) new → IsSortedHead n → All IsSortedHead mid → All IsSortedHead new
sorted_pushed mid new n pushed one all =
    All-permutation IsSortedHead (n ∷ mid) new pushed (All-from_recursion IsSortedHead (n ∷ mid) (one, recursion_from_All IsSortedHead mid all))

-- one more sheet
pub merged_added : (old new : List HeadValue) (n : HeadValue) (sheet : List Pair) → IsPermutation (n ∷ old) new → head_pairs n ≡ sheet → merged_pairs new ≡ ord pair_cmp (merged_pairs old ++ sheet)
merged_added old new n sheet pushed is =
    sym (merged_alike (n ∷ old) new pushed)
    ∙ ap (λ ps. ord pair_cmp (ps ++ flat_map head_pairs old)) is
    ∙ ord_same pair_cmp pair_total pair_exact (sheet ++ flat_map head_pairs old) (merged_pairs old ++ sheet)
    (record { counts = λ z. omega (arith, count-append pair_cmp z sheet (flat_map head_pairs old), count-append pair_cmp z (merged_pairs old) sheet, count-ord pair_cmp z (flat_map head_pairs old)) })

pub merged_same : (old : List HeadValue) (sheet : List Pair) → length sheet ≡ 0 → merged_pairs old ≡ ord pair_cmp (merged_pairs old ++ sheet)
merged_same old sheet none =
    sym (ord_ascending pair_cmp pair_total pair_exact (merged_pairs old) (IsAscending-ord pair_cmp pair_total (flat_map head_pairs old)))
    ∙ ap (ord pair_cmp) (sym (append-nil (merged_pairs old)) ∙ ap (λ ps. merged_pairs old ++ ps) (sym (nil_from_length sheet none)))

-- all of one list behind another, in order
pub ord_joined : (xs ys : List Pair) → ord pair_cmp (ord pair_cmp xs ++ ys) ≡ ord pair_cmp (xs ++ ys)
ord_joined xs ys =
    ord_same pair_cmp pair_total pair_exact (ord pair_cmp xs ++ ys) (xs ++ ys)
    (record { counts = λ z. omega (arith, count-append pair_cmp z xs ys, count-append pair_cmp z (ord pair_cmp xs) ys, count-ord pair_cmp z xs) })

pub moved : (to to' old new : List Pair) (p : Pair) → to' ≡ to ++ p ∷ [] → old ≡ p ∷ new → to' ++ new ≡ to ++ old
moved to to' old new p t o = ap (λ ps. ps ++ new) t ∙ append_assoc to (p ∷ []) new ∙ ap (λ ps. to ++ ps) (sym o)

-- ---- a head

pub head_of : (ps : List Pair) (at : ℕ) (p : Pair) → at < length ps → slice_get ps at ≡ Some p → p ∷ drop (at + 1) ps ≡ drop at ps
head_of ps at p lt there = ap (λ q. q ∷ drop (at + 1) ps) (sym (get_or_from_slice_get ps at p p there)) ∙ sym (drop_more ps at p lt)

pub head_sorted : (ps : List Pair) (at : ℕ) (p : Pair) → at < length ps → slice_get ps at ≡ Some p → IsSorted pair_cmp ps → IsSorted pair_cmp (p ∷ drop (at + 1) ps)
head_sorted ps at p lt there sorted = subst (λ (qs : List Pair). IsSorted pair_cmp qs) (sym (head_of ps at p lt there)) (sorted_drop ps at sorted)

-- the pair that was pushed is the first one
pub pushed_first : {T E : Type 0} (r : Result T E) (old new ps : List Pair) (at : ℕ) (p first : Pair) → slice_get ps at ≡ Some p → p ≡ first → OnOk r ((d : Pair) → new ≡ old ++ get_or ps at d ∷ []) → OnOk r (new ≡ old ++ first ∷ [])
pushed_first (Ok x) old new ps at p first there is h = h p ∙ ap (λ q. old ++ q ∷ []) (get_or_from_slice_get ps at p p there ∙ is)
pushed_first (Err e) old new ps at p first there is h = tt

-- ---- one run after the other

abbrev pub sheet_of : RunValue → List Pair
sheet_of run = run.sheet

pub merged_run : (runs : List RunValue) (i : ℕ) (d : RunValue) (heads heads' sheet : List Pair) → i < length runs → heads ≡ ord pair_cmp (flat_map sheet_of (take i runs)) → sheet ≡ (get_or runs i d).sheet → heads' ≡ ord pair_cmp (heads ++ sheet) → heads' ≡ ord pair_cmp (flat_map sheet_of (take (i + 1) runs))
merged_run runs i d heads heads' sheet lt h is more =
    let run : RunValue = get_or runs i d in
    let before : List Pair = flat_map sheet_of (take i runs) in
    more
    ∙ ap (λ ps. ord pair_cmp (ps ++ sheet)) h
    ∙ ord_joined before sheet
    ∙ ap (λ ps. ord pair_cmp (before ++ ps)) (is ∙ sym (append-nil run.sheet))
    ∙ ap (ord pair_cmp) (sym (flat_map-append sheet_of (take i runs) (run ∷ [])) ∙ ap (flat_map sheet_of) (sym (take_more runs i d lt)))
