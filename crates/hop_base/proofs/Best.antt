-- The first K of a list in order don't change when items are added that K items are not above.
use Rattle.std.proofs.Common.{◌≡◌, ℕ, zero, suc, ◌+◌, ◌≤◌, Bool, true, false, cond, if◌then◌else◌, List, [], ◌∷◌, ◌++◌, length, take, drop, refl, sym, ap, ◌∙◌, subst, arith, inl, inr}
use Rattle.std.specs.declared.cmp.Ordering.{Ordering}
use Rattle.std.specs.declared.cmp.Ordering.TheVariants.{Less, Equal, Greater}
use Rattle.std.specs.Ordering.{is_gt, is_eq}
use Rattle.std.specs.Cmp.{IsTotalOrder, upto, tied_itself}
use Rattle.std.proofs.lemmas.Bool.{true≢false, cases_lt}
use Rattle.std.proofs.lemmas.List.{take-append-drop, length-take-le, take_all}
use Rattle.std.proofs.lemmas.Map.Lookups.{CmpEqualImpliesEq}
use Rattle.hop_base.specs.Sorted.{insert_in_order, ord}
use Rattle.hop_base.proofs.Truth.{level}
use Rattle.hop_base.proofs.Sorted.{IsUptoAll, IsAscending, IsAscending-ord, count, count-append, SameItems, SameItems-ord, ord_same}

module _ {X : Type 0} (cmp : X → X → Ordering) where
  -- none of the items is above x
  abbrev pub AllUpto : List X → X → Type 0
  AllUpto [] x = Unit {0}
  AllUpto (z ∷ zs) x = (is_gt (cmp z x) ≡ false) × AllUpto zs x

  -- how many items are not above x
  abbrev pub count_upto : X → List X → ℕ
  count_upto x [] = 0
  count_upto x (z ∷ zs) = (if is_gt (cmp z x) then 0 else 1) + count_upto x zs

  count_upto-append : (x : X) (xs ys : List X) → count_upto x (xs ++ ys) ≡ count_upto x xs + count_upto x ys
  count_upto-append x [] ys = omega arith
  count_upto-append x (z ∷ xs) ys = omega (arith, count_upto-append x xs ys)

  count_upto-insert : (x y : X) (ys : List X) → count_upto x (insert_in_order cmp y ys) ≡ (if is_gt (cmp y x) then 0 else 1) + count_upto x ys
  count_upto-insert x y [] = refl
  count_upto-insert x y (z ∷ ys) =
      elim (is_gt (cmp y z)) as (λ b. count_upto x (cond b (z ∷ insert_in_order cmp y ys) (y ∷ z ∷ ys)) ≡ (if is_gt (cmp y x) then 0 else 1) + count_upto x (z ∷ ys)) [
        | true ↦ omega (arith, count_upto-insert x y ys)
        | false ↦ refl
      ]

  count_upto-ord : (x : X) (xs : List X) → count_upto x (ord cmp xs) ≡ count_upto x xs
  count_upto-ord x [] = refl
  count_upto-ord x (y ∷ ys) = count_upto-insert x y (ord cmp ys) ∙ ap (λ n. (if is_gt (cmp y x) then 0 else 1) + n) (count_upto-ord x ys)

  one_at_most : (b : Bool) → (if b then 0 else 1) ≤ 1
  one_at_most true = omega arith
  one_at_most false = omega arith

  count_upto-le : (x : X) (xs : List X) → count_upto x xs ≤ length xs
  count_upto-le x [] = omega arith
  count_upto-le x (z ∷ zs) = omega (arith, one_at_most (is_gt (cmp z x)), count_upto-le x zs)

  all_count : (x : X) (xs : List X) → AllUpto xs x → count_upto x xs ≡ length xs
  all_count x [] h = refl
  all_count x (z ∷ zs) h = omega (arith, ap {B = ℕ} (λ b. if b then 0 else 1) h.0, all_count x zs h.1)

  module _ (o : IsTotalOrder cmp) (exact : CmpEqualImpliesEq cmp) where
    none_at : (x z w : X) (ws : List X) (b : Bool) → is_gt (cmp w x) ≡ b → is_gt (cmp z x) ≡ true → is_gt (cmp z w) ≡ false → count_upto x ws ≡ 0 → (if b then 0 else 1) + count_upto x ws ≡ 0
    none_at x z w ws true f e h r = omega (arith, r)
    none_at x z w ws false f e h r = absurd (true≢false (sym e ∙ upto o z w x h f))

    none_upto : (x z : X) (zs : List X) → is_gt (cmp z x) ≡ true → IsUptoAll cmp z zs → count_upto x zs ≡ 0
    none_upto x z [] e h = refl
    none_upto x z (w ∷ ws) e h = none_at x z w ws (is_gt (cmp w x)) refl e h.0 (none_upto x z ws e h.1)

    -- where n items are not above x, the first n are not
    first_upto : (x : X) (zs : List X) (n : ℕ) → IsAscending cmp zs → n ≤ count_upto x zs → AllUpto (take n zs) x
    first_upto x [] zero a h = tt
    first_upto x [] (suc n) a h = tt
    first_upto x (z ∷ zs) zero a h = tt
    first_upto x (z ∷ zs) (suc n) a h = first_at x z zs n (is_gt (cmp z x)) refl a h (first_upto x zs n a.1)
      where
        first_at : (x z : X) (zs : List X) (n : ℕ) (b : Bool) → is_gt (cmp z x) ≡ b → IsAscending cmp (z ∷ zs) → suc n ≤ (if b then 0 else 1) + count_upto x zs → (n ≤ count_upto x zs → AllUpto (take n zs) x) → AllUpto (take (suc n) (z ∷ zs)) x
        first_at x z zs n true e a h r = absurd (omega (arith, none_upto x z zs e a.0))
        first_at x z zs n false e a h r = (e, r (omega arith))

    insert_first : (x : X) (zs : List X) → IsUptoAll cmp x zs → insert_in_order cmp x zs ≡ x ∷ zs
    insert_first x [] h = refl
    insert_first x (z ∷ zs) h = ap (λ b. cond b (z ∷ insert_in_order cmp x zs) (x ∷ z ∷ zs)) h.0

    take_insert_at : (x z : X) (zs : List X) (n : ℕ) (b : Bool) → is_gt (cmp x z) ≡ b → is_gt (cmp z x) ≡ false → IsAscending cmp (z ∷ zs) → take n (insert_in_order cmp x zs) ≡ take n zs → take (suc n) (cond b (z ∷ insert_in_order cmp x zs) (x ∷ z ∷ zs)) ≡ take (suc n) (z ∷ zs)
    take_insert_at x z zs n true e f a r = ap (λ ys. z ∷ ys) r
    take_insert_at x z zs n false e f a r =
        let same : x ≡ z = exact x z (level (cmp x z) (cmp z x) (o.antisymm x z) e f) in
        ap (λ y. y ∷ take n (z ∷ zs)) same
        ∙ ap (λ ys. z ∷ take n ys) (sym (insert_first z zs a.0))
        ∙ ap (λ ys. z ∷ ys) (subst (λ y. take n (insert_in_order cmp y zs) ≡ take n zs) same r)

    -- one more item doesn't change the first n, where they are not above it
    take_insert : (x : X) (zs : List X) (n : ℕ) → IsAscending cmp zs → n ≤ length zs → AllUpto (take n zs) x → take n (insert_in_order cmp x zs) ≡ take n zs
    take_insert x [] zero a h u = refl
    take_insert x [] (suc n) a h u = absurd (omega arith)
    take_insert x (z ∷ zs) zero a h u = refl
    take_insert x (z ∷ zs) (suc n) a h u = take_insert_at x z zs n (is_gt (cmp x z)) refl u.0 a (take_insert x zs n a.1 (omega arith) u.1)

    -- n of the items are above none of these
    abbrev AllCounted : ℕ → List X → List X → Type 0
    AllCounted n xs [] = Unit {0}
    AllCounted n xs (d ∷ ds) = (n ≤ count_upto d xs) × AllCounted n xs ds

    add_worse : (n : ℕ) (ds xs : List X) → AllCounted n xs ds → take n (ord cmp (ds ++ xs)) ≡ take n (ord cmp xs)
    add_worse n [] xs h = refl
    add_worse n (d ∷ ds) xs h =
        let l : List X = ord cmp (ds ++ xs) in
        let many : n ≤ count_upto d l = omega (arith, count_upto-ord d (ds ++ xs), count_upto-append d ds xs, h.0) in
        take_insert d l n (IsAscending-ord cmp o (ds ++ xs)) (omega (arith, count_upto-le d l)) (first_upto d l n (IsAscending-ord cmp o (ds ++ xs)) many)
        ∙ add_worse n ds xs h.1

    -- none of the first ones is above any later one
    abbrev AllLater : List X → List X → Type 0
    AllLater fs [] = Unit {0}
    AllLater fs (d ∷ ds) = AllUpto fs d × AllLater fs ds

    later_none : (ds : List X) → AllLater [] ds
    later_none [] = tt
    later_none (d ∷ ds) = (tt, later_none ds)

    later_cons : (z : X) (fs ds : List X) → IsUptoAll cmp z ds → AllLater fs ds → AllLater (z ∷ fs) ds
    later_cons z fs [] u h = tt
    later_cons z fs (d ∷ ds) u h = ((u.0, h.0), later_cons z fs ds u.1 h.1)

    upto_drop : (z : X) (n : ℕ) (zs : List X) → IsUptoAll cmp z zs → IsUptoAll cmp z (drop n zs)
    upto_drop z zero [] u = tt
    upto_drop z (suc n) [] u = tt
    upto_drop z zero (w ∷ ws) u = u
    upto_drop z (suc n) (w ∷ ws) u = upto_drop z n ws u.1

    -- of a list in order, the first n are not above the later ones
    later_drop : (n : ℕ) (zs : List X) → IsAscending cmp zs → AllLater (take n zs) (drop n zs)
    later_drop zero zs a = later_none (drop 0 zs)
    later_drop (suc n) [] a = tt
    later_drop (suc n) (z ∷ zs) a = later_cons z (take n zs) (drop n zs) (upto_drop z n zs a.0) (later_drop n zs a.1)

    counted_later : (n : ℕ) (fs ws ds : List X) → n ≡ length fs → AllLater fs ds → AllCounted n (fs ++ ws) ds
    counted_later n fs ws [] e h = tt
    counted_later n fs ws (d ∷ ds) e h = (omega (arith, count_upto-append d fs ws, all_count d fs h.0), counted_later n fs ws ds e h.1)

    same_parts : (n : ℕ) (vs ws : List X) → SameItems cmp (vs ++ ws) (drop n (ord cmp vs) ++ (take n (ord cmp vs) ++ ws))
    same_parts n vs ws =
        let s : List X = ord cmp vs in
        record { counts = λ x. omega (arith, count-append cmp x vs ws, count-append cmp x (drop n s) (take n s ++ ws), count-append cmp x (take n s) ws, count-append cmp x (take n s) (drop n s), ap (count cmp x) (take-append-drop n s), (SameItems-ord cmp vs).counts x) }

    -- the first n of a list, joined with more, have the same first n
    pub first_alike : (n : ℕ) (vs ws : List X) → take n (ord cmp (take n (ord cmp vs) ++ ws)) ≡ take n (ord cmp (vs ++ ws))
    first_alike n vs ws = elim (cases_lt n (length (ord cmp vs))) [
      | inl more ↦
          sym (add_worse n (drop n (ord cmp vs)) (take n (ord cmp vs) ++ ws) (counted_later n (take n (ord cmp vs)) ws (drop n (ord cmp vs)) (sym (length-take-le n (ord cmp vs) (omega arith))) (later_drop n (ord cmp vs) (IsAscending-ord cmp o vs))))
          ∙ ap (take n) (sym (ord_same cmp o exact (vs ++ ws) (drop n (ord cmp vs) ++ (take n (ord cmp vs) ++ ws)) (same_parts n vs ws)))
      | inr few ↦
          ap (λ xs. take n (ord cmp (xs ++ ws))) (take_all n (ord cmp vs) few)
          ∙ ap (take n) (ord_same cmp o exact (ord cmp vs ++ ws) (vs ++ ws) (record { counts = λ x. omega (arith, count-append cmp x (ord cmp vs) ws, count-append cmp x vs ws, (SameItems-ord cmp vs).counts x) }))
    ]

-- ---- two orders that both tell different items apart

same_test : {X : Type 0} (P Q : X → X → Ordering) (p : IsTotalOrder P) (q : IsTotalOrder Q) → CmpEqualImpliesEq P → CmpEqualImpliesEq Q → (x y : X) (a b : Ordering) → P x y ≡ a → Q x y ≡ b → is_eq a ≡ is_eq b
same_test P Q p q ep eq x y Equal b e f = sym (ap is_eq (sym f ∙ subst (λ z. Q x z ≡ Equal) (ep x y e) (tied_itself q x)))
same_test P Q p q ep eq x y a Equal e f = ap is_eq (sym e ∙ subst (λ z. P x z ≡ Equal) (eq x y f) (tied_itself p x))
same_test P Q p q ep eq x y Less Less e f = refl
same_test P Q p q ep eq x y Less Greater e f = refl
same_test P Q p q ep eq x y Greater Less e f = refl
same_test P Q p q ep eq x y Greater Greater e f = refl

count_change : {X : Type 0} (P Q : X → X → Ordering) (p : IsTotalOrder P) (q : IsTotalOrder Q) → CmpEqualImpliesEq P → CmpEqualImpliesEq Q → (x : X) (ys : List X) → count P x ys ≡ count Q x ys
count_change P Q p q ep eq x [] = refl
count_change P Q p q ep eq x (y ∷ ys) = omega (arith, ap {B = ℕ} (λ b. if b then 1 else 0) (same_test P Q p q ep eq x y (P x y) (Q x y) refl refl), count_change P Q p q ep eq x ys)

-- lists with the same items by one order have them by the other
pub SameItems-change : {X : Type 0} (P Q : X → X → Ordering) (p : IsTotalOrder P) (q : IsTotalOrder Q) → CmpEqualImpliesEq P → CmpEqualImpliesEq Q → (xs ys : List X) → SameItems P xs ys → SameItems Q xs ys
SameItems-change P Q p q ep eq xs ys h = record { counts = λ x. sym (count_change P Q p q ep eq x xs) ∙ h.counts x ∙ count_change P Q p q ep eq x ys }
