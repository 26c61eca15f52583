-- A list that grows by one item for each item that is read off another, or for each number.
use Rattle.std.proofs.Common.{◌≡◌, ◌<◌, ℕ, zero, suc, ◌+◌, arith, List, [], ◌∷◌, ◌++◌, length, map, All, Some, None, refl, sym, ap, ◌∙◌, subst}
use Rattle.std.specs.Prelude.{slice_index_or}
use Rattle.std.specs.List.{slice_get, range_with_len, remove}
use Rattle.std.proofs.lemmas.List.{map-append, length_push}
use Rattle.std.proofs.lemmas.List.Elements.{All-push}
use Rattle.std.proofs.lemmas.List.FromFn.{map-range_with_len_more}

map_same : (xs : List ℕ) → map (λ x. x) xs ≡ xs
map_same [] = refl
map_same (x ∷ xs) = ap (λ l. x ∷ l) (map_same xs)

pub numbers-more : (n : ℕ) → range_with_len 0 n ++ n ∷ [] ≡ range_with_len 0 (n + 1)
numbers-more n = ap (λ l. l ++ n ∷ []) (sym (map_same (range_with_len 0 n))) ∙ sym (map-range_with_len_more (λ k. k) 0 n n (omega arith)) ∙ map_same (range_with_len 0 (n + 1))

module _ {A : Type 0} where
  pub at_seam : (xs ys : List A) (x : A) → slice_get (xs ++ x ∷ ys) (length xs) ≡ Some x
  at_seam [] ys x = refl
  at_seam (y ∷ xs) ys x = at_seam xs ys x

  -- the first item is taken out
  pub removed : (xs : List A) (x : A) → 0 < length xs → x ≡ slice_index_or xs 0 x → xs ≡ x ∷ remove xs 0
  removed [] x l e = absurd (omega arith)
  removed (y ∷ xs) x l e = λ i. sym e i ∷ xs

  some_is : (x m : A) → Some x ≡ Some m → x ≡ m
  some_is x m e = cc

  none_is : (P : A → Type 0) (m : A) → None ≡ Some m → P m
  none_is P m e = cc

  each-push : (P : A → Type 0) (xs : List A) (x : A) → ((k : ℕ) (m : A) → slice_get xs k ≡ Some m → P m) → P x → (k : ℕ) (m : A) → slice_get (xs ++ x ∷ []) k ≡ Some m → P m
  each-push P [] x h p zero m e = subst P (some_is x m e) p
  each-push P [] x h p (suc k) m e = none_is P m e
  each-push P (y ∷ xs) x h p zero m e = h zero m e
  each-push P (y ∷ xs) x h p (suc k) m e = each-push P xs x (λ j. h (suc j)) p k m e

  -- the list with one item more
  module _ (xs items : List A) (x : A) (is : items ≡ xs ++ x ∷ []) where
    pub longer : length items ≡ length xs + 1
    longer = ap length is ∙ length_push xs x

    pub each-more : (P : A → Type 0) → ((k : ℕ) (m : A) → slice_get xs k ≡ Some m → P m) → P x → (k : ℕ) (m : A) → slice_get items k ≡ Some m → P m
    each-more P h p k m e = each-push P xs x h p k m (ap (λ (l : List A). slice_get l k) (sym is) ∙ e)

    pub All-more : (P : A → Type 0) → All P xs → P x → All P items
    All-more P h k = subst (All P) (sym is) (All-push P xs x h k)

    pub map-more : {B : Type 0} (f : A → B) (ys : List B) (y : B) → map f xs ≡ ys → f x ≡ y → map f items ≡ ys ++ y ∷ []
    map-more f ys y e k = ap (map f) is ∙ map-append f xs (x ∷ []) ∙ (λ i. e i ++ k i ∷ [])
