-- A list that is filled place by place.
use Rattle.std.proofs.Common.{◌≡◌, ℕ, ◌+◌, ◌<◌, zero, suc, arith, List, [], ◌∷◌, ◌++◌, length, Option, Some, refl, sym, subst, ⊎_elim, All}
use Rattle.std.proofs.Math.Seq.{get_or-append_seam}
use Rattle.std.specs.List.{slice_get}
use Rattle.std.proofs.lemmas.Bool.{cases_order}

module _ {A : Type 0} where
  pub at_last : (xs ys : List A) (x : A) → slice_get (xs ++ x ∷ ys) (length xs) ≡ Some x
  at_last [] ys x = refl
  at_last (y ∷ xs) ys x = at_last xs ys x

  before_last : (xs : List A) (x : A) (i : ℕ) → i < length xs → slice_get (xs ++ x ∷ []) i ≡ slice_get xs i
  before_last [] x i l = absurd (omega arith)
  before_last (y ∷ xs) x zero l = refl
  before_last (y ∷ xs) x (suc i) l = before_last xs x i (omega arith)

  pub long : (xs : List A) (x : A) → length (xs ++ x ∷ []) ≡ length xs + 1
  long [] x = refl
  long (y ∷ xs) x = let n = long xs x in omega (arith, n)

  inner : (xs ys : List A) (x : A) → length xs < length (xs ++ x ∷ ys)
  inner [] ys x = omega arith
  inner (y ∷ xs) ys x = let n = inner xs ys x in omega (arith, n)

  -- what holds at each place of a list holds with one item more, if it holds of that
  pub one_more : (P : ℕ → Option A → Type 0) (xs : List A) (x : A) → ((i : ℕ) → i < length xs → P i (slice_get xs i)) → P (length xs) (Some x) → (i : ℕ) → i < length (xs ++ x ∷ []) → P i (slice_get (xs ++ x ∷ []) i)
  one_more P xs x h last i l =
      let n = long xs x in
      ⊎_elim (λ (s : i ≡ length xs). subst (λ k. P k (slice_get (xs ++ x ∷ []) k)) (sym s) (subst (P (length xs)) (sym (at_last xs [] x)) last))
      (⊎_elim (λ (b : i < length xs). subst (P i) (sym (before_last xs x i b)) (h i b)) (λ (a : length xs < i). absurd (omega (arith, n, l, a)))) (cases_order i (length xs))

  -- what holds of each item holds of one in the middle
  pub All-middle : (P : A → Type 0) (xs : List A) (x : A) (ys : List A) → All P (xs ++ x ∷ ys) → P x
  All-middle P xs x ys h = subst P (get_or-append_seam xs x ys x) (h (length xs) x (inner xs ys x))
