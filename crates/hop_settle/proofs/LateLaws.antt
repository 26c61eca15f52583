-- The first reducers of a list wait for their locks.
use Rattle.std.proofs.Common.{◌≡◌, ℕ, zero, suc, ◌+◌, List, [], ◌∷◌, length, map, refl, sym, ap, arith, Some, slice_set}
use Rattle.std.specs.List.{slice_get}
use Rattle.hop_machine.specs.actors.ReducerTurns.{Reducer}
use Rattle.hop_machine.specs.play.Play.{is_late}

abbrev pub late_first : ℕ → List Reducer → List Reducer
late_first zero rs = rs
late_first (suc n) [] = []
late_first (suc n) (r ∷ rs) = is_late r ∷ late_first n rs

-- the next one is as it was
pub late-next : (n : ℕ) (rs : List Reducer) → slice_get (late_first n rs) n ≡ slice_get rs n
late-next zero rs = refl
late-next (suc n) [] = refl
late-next (suc n) (r ∷ rs) = late-next n rs

one_late : (r q : Reducer) → Some r ≡ Some q → r ≡ q
one_late r q h = cc

pub late-more : (n : ℕ) (rs : List Reducer) (r : Reducer) → slice_get rs n ≡ Some r → slice_set (late_first n rs) n (is_late r) ≡ late_first (suc n) rs
late-more zero [] r h = cc
late-more zero (q ∷ rs) r h = (λ i. is_late (sym (one_late q r h) i) ∷ rs)
late-more (suc n) [] r h = cc
late-more (suc n) (q ∷ rs) r h = ap (λ l. is_late q ∷ l) (late-more n rs r h)

pub late-all : (rs : List Reducer) (n : ℕ) → n ≡ length rs → late_first n rs ≡ map is_late rs
late-all [] zero h = refl
late-all [] (suc n) h = refl
late-all (r ∷ rs) zero h = cc
late-all (r ∷ rs) (suc n) h = ap (λ l. is_late r ∷ l) (late-all rs n (omega (arith, h)))

pub one_more : (n : ℕ) → suc n ≡ n + 1
one_more n = omega arith
