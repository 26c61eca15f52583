-- Lists in order: a list in order is determined by how often each item occurs in it.
use Rattle.std.proofs.Common.{◌≡◌, ℕ, ◌+◌, ◌<◌, Bool, true, false, cond, if◌then◌else◌, List, [], ◌∷◌, ◌++◌, length, get_or, refl, sym, ap, ◌∙◌, subst, arith, zero, suc}
use Rattle.std.specs.declared.cmp.Ordering.{Ordering}
use Rattle.std.specs.declared.cmp.Ordering.TheVariants.{Less, Equal, Greater}
use Rattle.std.specs.Ordering.{is_gt, is_lt, is_eq, ordering_reverse}
use Rattle.std.specs.Cmp.{IsTotalOrder, upto, alike_right, tied_itself}
use Rattle.std.specs.List.{sum_by, All, AllByRecursion}
use Rattle.std.proofs.lemmas.List.Elements.{All-from_recursion, recursion_from_All}
use Rattle.std.specs.List.Sorted.{IsPermutation, IsSorted}
use Rattle.std.proofs.lemmas.List.Sums.{sum_by-cons}
use Rattle.std.proofs.lemmas.List.Sorted.{sum_by-IsPermutation}
use Rattle.std.proofs.lemmas.Bool.{true≢false}
use Rattle.std.proofs.lemmas.Map.Lookups.{CmpEqualImpliesEq}
use Rattle.hop_base.specs.Sorted.{insert_in_order, ord}
use Rattle.hop_base.proofs.Truth.{below_from_above, eq_of, level}

module _ {X : Type 0} (cmp : X → X → Ordering) where
  -- x is above none of the items
  abbrev pub IsUptoAll : X → List X → Type 0
  IsUptoAll x [] = Unit {0}
  IsUptoAll x (y ∷ ys) = (is_gt (cmp x y) ≡ false) × IsUptoAll x ys

  abbrev pub IsAscending : List X → Type 0
  IsAscending [] = Unit {0}
  IsAscending (x ∷ xs) = IsUptoAll x xs × IsAscending xs

  -- how often x occurs
  abbrev pub count : X → List X → ℕ
  count x [] = 0
  count x (y ∷ ys) = (if is_eq (cmp x y) then 1 else 0) + count x ys

  pub count-append : (x : X) (xs ys : List X) → count x (xs ++ ys) ≡ count x xs + count x ys
  count-append x [] ys = omega arith
  count-append x (z ∷ xs) ys = omega (arith, count-append x xs ys)

  pub count-insert : (x y : X) (ys : List X) → count x (insert_in_order cmp y ys) ≡ (if is_eq (cmp x y) then 1 else 0) + count x ys
  count-insert x y [] = refl
  count-insert x y (z ∷ ys) =
      elim (is_gt (cmp y z)) as (λ b. count x (cond b (z ∷ insert_in_order cmp y ys) (y ∷ z ∷ ys)) ≡ (if is_eq (cmp x y) then 1 else 0) + count x (z ∷ ys)) [
        | true ↦ omega (arith, count-insert x y ys)
        | false ↦ refl
      ]

  pub count-ord : (x : X) (xs : List X) → count x (ord cmp xs) ≡ count x xs
  count-ord x [] = refl
  count-ord x (y ∷ ys) = count-insert x y (ord cmp ys) ∙ ap (λ n. (if is_eq (cmp x y) then 1 else 0) + n) (count-ord x ys)

  -- the same items, each as often
  pub record SameItems (xs ys : List X) : Type 0 where
    pub counts : (x : X) → count x xs ≡ count x ys

  sum_by_count : (x : X) (xs : List X) → count x xs ≡ sum_by (λ y. if is_eq (cmp x y) then 1 else 0) xs
  sum_by_count x [] = refl
  sum_by_count x (y ∷ ys) = ap (λ n. (if is_eq (cmp x y) then 1 else 0) + n) (sum_by_count x ys) ∙ sym (sum_by-cons (λ y. if is_eq (cmp x y) then 1 else 0) y ys)

  pub SameItems-IsPermutation : (xs ys : List X) → IsPermutation xs ys → SameItems xs ys
  SameItems-IsPermutation xs ys h = record { counts = λ x. sum_by_count x xs ∙ sym (sum_by-IsPermutation (λ y. if is_eq (cmp x y) then 1 else 0) xs ys h) ∙ sym (sum_by_count x ys) }

  pub SameItems-refl : (xs : List X) → SameItems xs xs
  SameItems-refl xs = record { counts = λ x. refl }

  pub SameItems-sym : (xs ys : List X) → SameItems xs ys → SameItems ys xs
  SameItems-sym xs ys h = record { counts = λ x. sym (h.counts x) }

  pub SameItems-trans : (xs ys zs : List X) → SameItems xs ys → SameItems ys zs → SameItems xs zs
  SameItems-trans xs ys zs h k = record { counts = λ x. h.counts x ∙ k.counts x }

  pub SameItems-append : (xs ys us vs : List X) → SameItems xs ys → SameItems us vs → SameItems (xs ++ us) (ys ++ vs)
  SameItems-append xs ys us vs h k = record { counts = λ x. omega (arith, count-append x xs us, count-append x ys vs, h.counts x, k.counts x) }

  pub SameItems-append_comm : (xs ys : List X) → SameItems (xs ++ ys) (ys ++ xs)
  SameItems-append_comm xs ys = record { counts = λ x. omega (arith, count-append x xs ys, count-append x ys xs) }

  pub SameItems-ord : (xs : List X) → SameItems (ord cmp xs) xs
  SameItems-ord xs = record { counts = λ x. count-ord x xs }

  all_insert : (P : X → Type 0) (x : X) (ys : List X) → P x → AllByRecursion P ys → AllByRecursion P (insert_in_order cmp x ys)
  all_insert P x [] p h = (p, h)
  all_insert P x (y ∷ ys) p h =
      elim (is_gt (cmp x y)) as (λ b. AllByRecursion P (cond b (y ∷ insert_in_order cmp x ys) (x ∷ y ∷ ys))) [
        | true ↦ (h.0, all_insert P x ys p h.1)
        | false ↦ (p, h)
      ]

  all_ord : (P : X → Type 0) (xs : List X) → AllByRecursion P xs → AllByRecursion P (ord cmp xs)
  all_ord P [] h = h
  all_ord P (x ∷ xs) h = all_insert P x (ord cmp xs) h.0 (all_ord P xs h.1)

  pub All-ord : (P : X → Type 0) (xs : List X) → All P xs → All P (ord cmp xs)
  All-ord P xs h = All-from_recursion P (ord cmp xs) (all_ord P xs (recursion_from_All P xs h))

  length-insert : (x : X) (ys : List X) → length (insert_in_order cmp x ys) ≡ length ys + 1
  length-insert x [] = refl
  length-insert x (y ∷ ys) =
      elim (is_gt (cmp x y)) as (λ b. length (cond b (y ∷ insert_in_order cmp x ys) (x ∷ y ∷ ys)) ≡ length (y ∷ ys) + 1) [
        | true ↦ omega (arith, length-insert x ys)
        | false ↦ omega arith
      ]

  pub length-ord : (xs : List X) → length (ord cmp xs) ≡ length xs
  length-ord [] = refl
  length-ord (x ∷ xs) = omega (arith, length-insert x (ord cmp xs), length-ord xs)

  module _ (o : IsTotalOrder cmp) where
    upto_insert : (z x : X) (ys : List X) → is_gt (cmp z x) ≡ false → IsUptoAll z ys → IsUptoAll z (insert_in_order cmp x ys)
    upto_insert z x [] e h = (e, tt)
    upto_insert z x (y ∷ ys) e h =
        elim (is_gt (cmp x y)) as (λ b. IsUptoAll z (cond b (y ∷ insert_in_order cmp x ys) (x ∷ y ∷ ys))) [
          | true ↦ (h.0, upto_insert z x ys e h.1)
          | false ↦ (e, h)
        ]

    upto_more : (z x : X) (ys : List X) → is_gt (cmp z x) ≡ false → IsUptoAll x ys → IsUptoAll z ys
    upto_more z x [] e h = tt
    upto_more z x (y ∷ ys) e h = (upto o z x y e h.0, upto_more z x ys e h.1)

    ascending_step : (x y : X) (ys : List X) (b : Bool) → is_gt (cmp x y) ≡ b → IsAscending (y ∷ ys) → IsAscending (insert_in_order cmp x ys) → IsAscending (cond b (y ∷ insert_in_order cmp x ys) (x ∷ y ∷ ys))
    ascending_step x y ys true e h k = (upto_insert y x ys (below_from_above (cmp x y) (cmp y x) (o.antisymm y x) e) h.0, k)
    ascending_step x y ys false e h k = ((e, upto_more x y ys e h.0), h)

    ascending_insert : (x : X) (ys : List X) → IsAscending ys → IsAscending (insert_in_order cmp x ys)
    ascending_insert x [] h = (tt, tt)
    ascending_insert x (y ∷ ys) h = ascending_step x y ys (is_gt (cmp x y)) refl h (ascending_insert x ys h.1)

    pub IsAscending-ord : (xs : List X) → IsAscending (ord cmp xs)
    IsAscending-ord [] = tt
    IsAscending-ord (x ∷ xs) = ascending_insert x (ord cmp xs) (IsAscending-ord xs)

    -- what occurs among them is not below either
    upto_step : (z x y : X) (ys : List X) (b : Bool) → is_eq (cmp x y) ≡ b → IsUptoAll z (y ∷ ys) → (0 < count x ys → is_gt (cmp z x) ≡ false) → 0 < (if b then 1 else 0) + count x ys → is_gt (cmp z x) ≡ false
    upto_step z x y ys true e h k n = ap is_gt (alike_right o x y z (eq_of (cmp x y) e)) ∙ h.0
    upto_step z x y ys false e h k n = k (omega arith)

    pub upto_counted : (z x : X) (ys : List X) → IsUptoAll z ys → 0 < count x ys → is_gt (cmp z x) ≡ false
    upto_counted z x [] h n = absurd (omega arith)
    upto_counted z x (y ∷ ys) h n = upto_step z x y ys (is_eq (cmp x y)) refl h (upto_counted z x ys h.1) n

    counts_itself : (x : X) (xs : List X) → 0 < count x (x ∷ xs)
    counts_itself x xs = omega (arith, ap {B = ℕ} (λ r. if is_eq r then 1 else 0) (tied_itself o x))

    upto_itself : (x : X) → is_gt (cmp x x) ≡ false
    upto_itself x = ap is_gt (tied_itself o x)

    module _ (exact : CmpEqualImpliesEq cmp) where
      same_head : (x y : X) (xs ys : List X) → IsAscending (x ∷ xs) → IsAscending (y ∷ ys) → SameItems (x ∷ xs) (y ∷ ys) → x ≡ y
      same_head x y xs ys h k s =
          let there : 0 < count y (x ∷ xs) = omega (arith, s.counts y, counts_itself y ys) in
          let back : 0 < count x (y ∷ ys) = omega (arith, s.counts x, counts_itself x xs) in
          exact x y (level (cmp x y) (cmp y x) (o.antisymm x y) (upto_counted x y (x ∷ xs) (upto_itself x, h.0) there) (upto_counted y x (y ∷ ys) (upto_itself y, k.0) back))

      same_tail : (x y : X) (xs ys : List X) → x ≡ y → SameItems (x ∷ xs) (y ∷ ys) → SameItems xs ys
      same_tail x y xs ys e s = record { counts = λ z. omega (arith, s.counts z, ap {B = ℕ} (λ (w : X). if is_eq (cmp z w) then 1 else 0) e) }

      -- a list in order is determined by its items
      pub same_ascending : (xs ys : List X) → IsAscending xs → IsAscending ys → SameItems xs ys → xs ≡ ys
      same_ascending [] [] h k s = refl
      same_ascending [] (y ∷ ys) h k s = absurd (omega (arith, s.counts y, counts_itself y ys))
      same_ascending (x ∷ xs) [] h k s = absurd (omega (arith, s.counts x, counts_itself x xs))
      same_ascending (x ∷ xs) (y ∷ ys) h k s =
          let e : x ≡ y = same_head x y xs ys h k s in
          let t : xs ≡ ys = same_ascending xs ys h.1 k.1 (same_tail x y xs ys e s) in
          cc

      pub ord_same : (xs ys : List X) → SameItems xs ys → ord cmp xs ≡ ord cmp ys
      ord_same xs ys s = same_ascending _ _ (IsAscending-ord xs) (IsAscending-ord ys) (SameItems-trans _ _ _ (SameItems-ord xs) (SameItems-trans _ _ _ s (SameItems-sym _ _ (SameItems-ord ys))))

      pub ord_ascending : (xs : List X) → IsAscending xs → ord cmp xs ≡ xs
      ord_ascending xs h = same_ascending _ _ (IsAscending-ord xs) h (SameItems-ord xs)

      -- what a sort leaves
      pub ord_sorted : (xs ys : List X) → IsPermutation xs ys → IsAscending ys → ys ≡ ord cmp xs
      ord_sorted xs ys p h = sym (ord_ascending ys h) ∙ ord_same ys xs (SameItems-sym _ _ (SameItems-IsPermutation xs ys p))

    -- std's `IsSorted`, by recursion
    sorted_tail : (x : X) (xs : List X) → IsSorted cmp (x ∷ xs) → IsSorted cmp xs
    sorted_tail x xs h k d lo hi =
        let e : suc k + 1 ≡ suc (k + 1) = omega arith in
        subst (λ n. is_lt (cmp (get_or (x ∷ xs) n d) (get_or (x ∷ xs) (suc k) d)) ≡ false) e (h (suc k) d (omega arith) (omega arith))

    not_above : (p q : Ordering) → p ≡ ordering_reverse q → is_lt q ≡ false → is_gt p ≡ false
    not_above p Less t e = absurd (true≢false e)
    not_above p Equal t e = ap is_gt t
    not_above p Greater t e = ap is_gt t

    pub IsAscending-IsSorted : (xs : List X) → IsSorted cmp xs → IsAscending xs
    IsAscending-IsSorted [] h = tt
    IsAscending-IsSorted (x ∷ []) h = (tt, tt)
    IsAscending-IsSorted (x ∷ y ∷ ys) h =
        let rest : IsAscending (y ∷ ys) = IsAscending-IsSorted (y ∷ ys) (sorted_tail x (y ∷ ys) h) in
        let e : is_gt (cmp x y) ≡ false = not_above (cmp x y) (cmp y x) (o.antisymm x y) (h 0 x (omega arith) (omega arith)) in
        ((e, upto_more x y ys e rest.0), rest)

    -- and back
    above_first : (x : X) (xs : List X) → IsUptoAll x xs → IsAscending xs → IsSorted cmp xs → IsSorted cmp (x ∷ xs)
    above_first x xs u a h zero d lo hi = first xs u hi
      where
        first : (xs : List X) → IsUptoAll x xs → 0 + 1 < length (x ∷ xs) → is_lt (cmp (get_or (x ∷ xs) (0 + 1) d) x) ≡ false
        first [] u hi = absurd (omega arith)
        first (y ∷ ys) u hi = not_below (cmp x y) (cmp y x) (o.antisymm y x) u.0
          where
            not_below : (p q : Ordering) → q ≡ ordering_reverse p → is_gt p ≡ false → is_lt q ≡ false
            not_below Less q t e = ap is_lt t
            not_below Equal q t e = ap is_lt t
            not_below Greater q t e = absurd (true≢false e)
    above_first x xs u a h (suc k) d lo hi =
        let e : suc (k + 1) ≡ suc k + 1 = omega arith in
        subst (λ n. is_lt (cmp (get_or (x ∷ xs) n d) (get_or (x ∷ xs) (suc k) d)) ≡ false) e (h k d (omega arith) (omega arith))

    pub IsSorted-IsAscending : (xs : List X) → IsAscending xs → IsSorted cmp xs
    IsSorted-IsAscending [] h = λ k d lo hi. absurd (omega arith)
    IsSorted-IsAscending (x ∷ xs) h = above_first x xs h.0 h.1 (IsSorted-IsAscending xs h.1)
