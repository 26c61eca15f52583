-- One place of a list, of a function, and the seat of one actor, that changed.
use Rattle.std.proofs.Common.{◌≡◌, ◌≢◌, ℕ, ◌<◌, ◌==◌, Bool, true, false, cond, List, [], ◌∷◌, ◌++◌, slice_set, Option, Some, zero, suc, refl, sym, ap, ◌∙◌}
use Rattle.std.specs.List.{slice_get}
use Rattle.std.proofs.lemmas.Bool.{eqb-true, eq-eqb}
use Rattle.std.proofs.lemmas.List.{append-nil}
use Rattle.hop_machine.specs.step.Steps.{Told, Grows, Begins, at1}

module _ {A : Type 0} where
  get_here : (xs : List A) (i : ℕ) (a x : A) → slice_get xs i ≡ Some x → slice_get (slice_set xs i a) i ≡ Some a
  get_here [] i a x e = cc
  get_here (y ∷ ys) zero a x e = refl
  get_here (y ∷ ys) (suc i) a x e = get_here ys i a x e

  get_else : (xs : List A) (i j : ℕ) (a : A) → j ≢ i → slice_get (slice_set xs i a) j ≡ slice_get xs j
  get_else [] i j a n = refl
  get_else (y ∷ ys) zero zero a n = absurd (n refl)
  get_else (y ∷ ys) zero (suc j) a n = refl
  get_else (y ∷ ys) (suc i) zero a n = refl
  get_else (y ∷ ys) (suc i) (suc j) a n = get_else ys i j a (λ e. n (ap suc e))

pub not_eq : (v w : ℕ) → (v == w) ≡ false → v ≢ w
not_eq v w h e = let k : (v == w) ≡ true = eq-eqb v w e in let z : true ≡ false = sym k ∙ h in cc

at_place_by : {A : Type 0} (P : A → Type 0) (i j : ℕ) (x y : A) (t : Bool) → (j == i) ≡ t → ((j ≡ i) → P x) → P y → P (cond t x y)
at_place_by P i j x y true e here else = here (eqb-true j i e)
at_place_by P i j x y false e here else = else

pub at_place : {A : Type 0} (P : A → Type 0) (f : ℕ → A) (i j : ℕ) (x : A) → ((j ≡ i) → P x) → P (f j) → P (at1 f i x j)
at_place P f i j x here else = at_place_by P i j x (f j) (j == i) refl here else

pub at1-here : {A : Type 0} (g : ℕ → A) (p : ℕ) (x : A) → at1 g p x p ≡ x
at1-here g p x = λ i. cond (eq-eqb p p refl i) x (g p)

put_by : {A : Type 0} (xs : List A) (f : ℕ → A) (i j n : ℕ) (a : A) → ((k : ℕ) → k < n → slice_get xs k ≡ Some (f k)) → i < n → j < n → (t : Bool) → (j == i) ≡ t
    → slice_get (slice_set xs i a) j ≡ Some (cond t a (f j))
put_by xs f i j n a h li lj true e = ap (λ k. slice_get (slice_set xs i a) k) (eqb-true j i e) ∙ get_here xs i a (f i) (h i li)
put_by xs f i j n a h li lj false e = get_else xs i j a (not_eq j i e) ∙ h j lj

pub put : {A : Type 0} (xs : List A) (f : ℕ → A) (i n : ℕ) (a : A) → ((k : ℕ) → k < n → slice_get xs k ≡ Some (f k)) → i < n → (j : ℕ) → j < n → slice_get (slice_set xs i a) j ≡ Some (at1 f i a j)
put xs f i n a h li j lj = put_by xs f i j n a h li lj (j == i) refl

begins_same : {A : Type 0} (xs : List A) → Begins xs xs
begins_same xs = ([], sym (append-nil xs))

pub grows_same : (a : Told) → Grows a a
grows_same a = record {
  taken = λ w p. begins_same (a.taken w p);
  sent = λ w p. begins_same (a.sent w p);
  cut_taken = λ p. begins_same (a.cut_taken p);
  cut_sent = λ p. begins_same (a.cut_sent p);
  knows = λ who. record { won = λ i n e. e; gone = λ i n e. e };
}
