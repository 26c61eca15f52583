-- Merging pairs in order.
use Rattle.std.proofs.Common.{◌≡◌, Bool, true, false, cond, List, [], ◌∷◌, ◌++◌}
use Rattle.std.specs.Prelude.{IsSorted}
use Rattle.std.specs.List.{AllByRecursion}
use Rattle.std.specs.Ordering.{is_gt}
use Rattle.std.specs.List.Sorted.{IsPermutation}
use Rattle.std.specs.Cmp.{upto}
use Rattle.std.proofs.lemmas.List.Elements.{All-from_recursion, recursion_from_All}
use Rattle.std.proofs.lemmas.List.Sorted.{IsPermutation-refl, IsPermutation-cons, IsPermutation-trans, IsPermutation-middle}
use Rattle.hop_base.specs.declared.value.Pair.{Pair}
use Rattle.hop_base.specs.Order.{pair_cmp}
use Rattle.hop_base.specs.Sorted.{ord, insert_in_order}
use Rattle.hop_base.proofs.OrderLaws.{pair_total}
use Rattle.hop_base.proofs.Sorted.{IsUptoAll, IsSorted-IsAscending, IsAscending-ord, All-ord}

-- p is above none of the pairs
each_upto : (p : Pair) (ps : List Pair) → IsUptoAll pair_cmp p ps → AllByRecursion (λ q. is_gt (pair_cmp p q) ≡ false) ps
each_upto p [] h = tt
each_upto p (q ∷ ps) h = (h.0, each_upto p ps h.1)

upto_each : (p : Pair) (ps : List Pair) → AllByRecursion (λ q. is_gt (pair_cmp p q) ≡ false) ps → IsUptoAll pair_cmp p ps
upto_each p [] h = tt
upto_each p (q ∷ ps) h = (h.0, upto_each p ps h.1)

pub upto_ord : (p : Pair) (ps : List Pair) → IsUptoAll pair_cmp p ps → IsUptoAll pair_cmp p (ord pair_cmp ps)
upto_ord p ps h =
    let P : Pair → Type 0 = λ q. is_gt (pair_cmp p q) ≡ false in
    upto_each p (ord pair_cmp ps) (recursion_from_All P (ord pair_cmp ps) (All-ord pair_cmp P ps (All-from_recursion P ps (each_upto p ps h))))

pub upto_append : (p : Pair) (ps qs : List Pair) → IsUptoAll pair_cmp p ps → IsUptoAll pair_cmp p qs → IsUptoAll pair_cmp p (ps ++ qs)
upto_append p [] qs h k = k
upto_append p (r ∷ ps) qs h k = (h.0, upto_append p ps qs h.1 k)

pub upto_later : (p q : Pair) (qs : List Pair) → is_gt (pair_cmp p q) ≡ false → IsUptoAll pair_cmp q qs → IsUptoAll pair_cmp p qs
upto_later p q [] e h = tt
upto_later p q (r ∷ qs) e h = (upto pair_total p q r e h.0, upto_later p q qs e h.1)

-- what is in order stays so
pub ord_is_sorted : (ps : List Pair) → IsSorted pair_cmp (ord pair_cmp ps)
ord_is_sorted ps = IsSorted-IsAscending pair_cmp pair_total (ord pair_cmp ps) (IsAscending-ord pair_cmp pair_total ps)

-- ---- a list in order has the same items

insert_at : (p q : Pair) (ps : List Pair) (b : Bool) → IsPermutation (p ∷ ps) (insert_in_order pair_cmp p ps) → IsPermutation (p ∷ q ∷ ps) (cond b (q ∷ insert_in_order pair_cmp p ps) (p ∷ q ∷ ps))
insert_at p q ps true h = IsPermutation-trans (p ∷ q ∷ ps) (q ∷ p ∷ ps) (q ∷ insert_in_order pair_cmp p ps) (IsPermutation-middle (p ∷ []) q ps) (IsPermutation-cons q (p ∷ ps) (insert_in_order pair_cmp p ps) h)
insert_at p q ps false h = IsPermutation-refl (p ∷ q ∷ ps)

insert_permutes : (p : Pair) (ps : List Pair) → IsPermutation (p ∷ ps) (insert_in_order pair_cmp p ps)
insert_permutes p [] = IsPermutation-refl (p ∷ [])
insert_permutes p (q ∷ ps) = insert_at p q ps (is_gt (pair_cmp p q)) (insert_permutes p ps)

pub ord_permutes : (ps : List Pair) → IsPermutation ps (ord pair_cmp ps)
ord_permutes [] = IsPermutation-refl []
ord_permutes (p ∷ ps) = IsPermutation-trans (p ∷ ps) (p ∷ ord pair_cmp ps) (ord pair_cmp (p ∷ ps)) (IsPermutation-cons p ps (ord pair_cmp ps) (ord_permutes ps)) (insert_permutes p (ord pair_cmp ps))
