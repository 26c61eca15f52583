-- What stands at a place of a list that the code reads or writes.
use Rattle.std.proofs.Common.{◌≡◌, ⊎_elim, ℕ, zero, suc, ◌<◌, Bool, List, [], ◌∷◌, length, get_or, map, Some, slice_set, refl, sym, ap, subst, ◌∙◌}
use Rattle.std.specs.Option.{option_map}
use Rattle.std.specs.List.{slice_get}
use Rattle.std.proofs.lemmas.Option.{slice_get-map, slice_get_read}
use Rattle.std.proofs.lemmas.List.{map-set}
use Rattle.hop_machine.proofs.settling.Passes.{get_set}
use Rattle.hop_settle.specs.Crews.{AreWell}

module _ {A B : Type 0} (f : A → B) (xs : List A) (w : ℕ) (x : A) (inside : w < length xs) (is : x ≡ get_or xs w x) where
  pub at-place : slice_get xs w ≡ Some x
  at-place = slice_get_read xs (length xs) w x refl inside is

  pub at-mapped : slice_get (map f xs) w ≡ Some (f x)
  at-mapped = slice_get-map f xs w ∙ ap (option_map f) at-place

-- # Writes

-- a value that is there is written again
pub set-back : {A : Type 0} (xs : List A) (w : ℕ) (x : A) → slice_get xs w ≡ Some x → slice_set xs w x ≡ xs
set-back [] w x h = refl
set-back (y ∷ ys) zero x h = let same : x ≡ y = cc in (λ i. same i ∷ ys)
set-back (y ∷ ys) (suc w) x h = ap (λ zs. y ∷ zs) (set-back ys w x h)

module _ {A B : Type 0} (f : A → B) (xs : List A) (w : ℕ) (x y : A) (here : slice_get xs w ≡ Some x) where
  mapped-here : slice_get (map f xs) w ≡ Some (f x)
  mapped-here = slice_get-map f xs w ∙ ap (option_map f) here

  -- what contracts see of it is written
  pub mapped-set : map f (slice_set xs w y) ≡ slice_set (map f xs) w (f y)
  mapped-set = map-set f xs w y

  -- and is as before where it is the same
  pub mapped-same : f y ≡ f x → map f (slice_set xs w y) ≡ map f xs
  mapped-same same = mapped-set ∙ ap (λ b. slice_set (map f xs) w b) same ∙ set-back (map f xs) w (f x) mapped-here

pub mapped-at : {A B : Type 0} (f : A → B) (xs : List A) (w : ℕ) (x : A) → slice_get xs w ≡ Some x → slice_get (map f xs) w ≡ Some (f x)
mapped-at f xs w x here = slice_get-map f xs w ∙ ap (option_map f) here

-- mappers of which one was written
pub well-set : {M : Type 0} (failed : M → Bool) (fits : M → List ℕ → Type 0) (board : List ℕ) (ms : List M) (w : ℕ) (m n : M) → slice_get ms w ≡ Some m → failed n ≡ failed m → (fits m board → fits n board) → AreWell failed fits board ms → AreWell failed fits board (slice_set ms w n)
well-set failed fits board ms w m n here same keeps well k o g =
    ⊎_elim (λ (s : (k ≡ w) × (n ≡ o)). let was = well w m here in (ap failed (sym s.1) ∙ same ∙ was.0, subst (λ z. fits z board) s.1 (keeps was.1)))
    (λ (s : slice_get ms k ≡ Some o). well k o s) (get_set ms w k n o g)
