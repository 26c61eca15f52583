-- The counted numbers are those of the attempts that were begun.
use Rattle.std.proofs.Common.{◌≡◌, ℕ, zero, suc, ◌≤◌, ◌<◌, List, [], ◌∷◌, length, refl, ap, ⊎_elim, false, arith, Some, unwrap_or, slice_index}
use Rattle.std.specs.List.{slice_get}
use Rattle.hop_machine.specs.step.Steps.{Setup, rules_of}
use Rattle.hop_machine.specs.actors.MapperTurns.{Mapper}
use Rattle.hop_machine.specs.home.Starts.{new_mapper}
use Rattle.hop_machine.specs.play.Play.{Actors}
use Rattle.hop_machine.specs.run.AllHome.{mapper_of}
use Rattle.hop_machine.specs.ending.Finishing.{greatest}
use Rattle.hop_machine.proofs.ending.Winners.{below}
use Rattle.hop_settle.specs.Begun.{IsMost, AreCounted}
use Rattle.hop_settle.specs.Lacking.{AreBegunBy}

greatest-most : (n c : ℕ) (f : ℕ → ℕ) → ((i : ℕ) → i < n → f i ≤ c) → greatest n f ≤ c
greatest-most zero c f h = omega arith
greatest-most (suc n) c f h = let k = greatest-most n c f (λ i l. h i (omega (arith, l))) in let m = h n (omega arith) in omega (arith, k, m)

greatest-least : (n w : ℕ) (f : ℕ → ℕ) → w < n → f w ≤ greatest n f
greatest-least zero w f l = absurd (omega (arith, l))
greatest-least (suc n) w f l =
    ⊎_elim (λ (k : w ≡ n). let e = ap f k in omega (arith, e)) (λ (k : w < n). let m = greatest-least n w f k in omega (arith, m)) (below w n l)

some_there : {A : Type 0} (xs : List A) (i : ℕ) → i < length xs → (y : A) × (slice_get xs i ≡ Some y)
some_there [] i l = absurd (omega (arith, l))
some_there (x ∷ xs) zero l = (x, refl)
some_there (x ∷ xs) (suc i) l = some_there xs i (omega (arith, l))

there : {A : Type 0} (xs : List A) (i : ℕ) (x : A) → slice_get xs i ≡ Some x → i < length xs
there [] i x e = cc
there (y ∷ ys) zero x e = omega arith
there (y ∷ ys) (suc i) x e = let l = there ys i x e in omega (arith, l)

module _ (x : Actors) (s : Setup) (workers : length x.mappers ≡ s.workers) where
  said_of : (w : ℕ) (m : Mapper) → slice_get x.mappers w ≡ Some m → mapper_of x s w ≡ m
  said_of w m h = ap (λ o. unwrap_or o (new_mapper w (rules_of s) false 0)) h

  is-greatest : (i n : ℕ) → IsMost x.mappers i n → n ≡ greatest s.workers (λ w. (mapper_of x s w).begun i)
  is-greatest i n h =
      let up = h.least (greatest s.workers (λ w. (mapper_of x s w).begun i)) (λ w m g.
      let k = greatest-least s.workers w (λ w. (mapper_of x s w).begun i) (let l = there x.mappers w m g in omega (arith, l, workers)) in
      let e = ap (λ (m : Mapper). m.begun i) (said_of w m g) in omega (arith, k, e)) in
      let down = greatest-most s.workers n (λ w. (mapper_of x s w).begun i) (λ w l.
      let t = some_there x.mappers w (omega (arith, l, workers)) in
      let k = h.most w t.0 t.1 in let e = ap (λ (m : Mapper). m.begun i) (said_of w t.0 t.1) in omega (arith, k, e)) in
      omega (arith, up, down)

  pub counted-begun : (begun : List ℕ) → length begun ≡ length s.lens → AreCounted x.mappers begun → AreBegunBy x s begun
  counted-begun begun count h = record { count = count; each = λ i l. is-greatest i (slice_index begun i) (h i (omega (arith, count, l))) }
