-- Places in a grid, and a write to one of them.
use Rattle.std.specs.Prelude.{◌≡◌, ◌≢◌, ℕ, ◌+◌, ◌*◌, ◌<◌, ◌≤◌, ◌&&◌, ◌==◌, Bool, true, false, List, [], ◌∷◌, Some, None, cond, nat_lt, slice_set, zero, suc}
use Rattle.std.specs.List.{slice_get}
use Rattle.std.proofs.Common.{arith, refl, sym, ap, ◌∙◌, ⊎_elim}
use Rattle.std.proofs.lemmas.Bool.{cases_order, ltb-true, eqb-true, eq-eqb}
use Rattle.std.proofs.Math.Nat.{mul-le-mul_right, suc-mul}
use Rattle.hop_crew.specs.PlainWorlds.{grid_get}

module _ {A : Type 0} where
  pub get_here : (xs : List A) (i : ℕ) (a x : A) → slice_get xs i ≡ Some x → slice_get (slice_set xs i a) i ≡ Some a
  get_here [] i a x e = cc
  get_here (y ∷ ys) zero a x e = refl
  get_here (y ∷ ys) (suc i) a x e = get_here ys i a x e

  pub get_else : (xs : List A) (i j : ℕ) (a : A) → j ≢ i → slice_get (slice_set xs i a) j ≡ slice_get xs j
  get_else [] i j a n = refl
  get_else (y ∷ ys) zero zero a n = absurd (n refl)
  get_else (y ∷ ys) zero (suc j) a n = refl
  get_else (y ∷ ys) (suc i) zero a n = refl
  get_else (y ∷ ys) (suc i) (suc j) a n = get_else ys i j a (λ e. n (ap suc e))

-- both tests hold
pub both_true : (a b : Bool) → (a && b) ≡ true → (a ≡ true) × (b ≡ true)
both_true true b h = (refl, h)
both_true false b h = cc

pub not_both : (v w q p : ℕ) → ((v == w) && (q == p)) ≡ false → (v ≡ w) → (q ≡ p) → ⊥
not_both v w q p h e f = let k : ((v == w) && (q == p)) ≡ true = λ i. eq-eqb v w e i && eq-eqb q p f i in let z : true ≡ false = sym k ∙ h in cc

pub is_here : (w p : ℕ) (k : ℕ × ℕ) → ((k.0 == w) && (k.1 == p)) ≡ true → k ≡ (w, p)
is_here w p k h = let t = both_true (k.0 == w) (k.1 == p) h in λ i. (eqb-true k.0 w t.0 i, eqb-true k.1 p t.1 i)

pub not_eq : (v w : ℕ) → (v == w) ≡ false → v ≢ w
not_eq v w h e = let k : (v == w) ≡ true = eq-eqb v w e in let z : true ≡ false = sym k ∙ h in cc

less : (R v w p q : ℕ) → q < R → v < w → v * R + q ≢ w * R + p
less R v w p q lt h e = let l : suc v ≤ w = omega arith in let m : suc v * R ≤ w * R = mul-le-mul_right R l in let s = suc-mul v R in let t : v * R + R ≤ w * R = rw (sym s) m in omega arith

pub apart : (R v q w p : ℕ) → q < R → p < R → ((v ≡ w) → (q ≡ p) → ⊥) → v * R + q ≢ w * R + p
apart R v q w p lq lp n e =
    ⊎_elim (λ (s : v ≡ w). n s (let t : v * R ≡ w * R = ap (λ k. k * R) s in omega arith))
    (⊎_elim (λ (l : v < w). less R v w p q lq l e) (λ (l : w < v). less R w v q p lp l (sym e))) (cases_order v w)

module _ {A : Type 0} (items : List A) (W R w p : ℕ) (l m : A) where
  inside : (b : Bool) → cond b (slice_get items (w * R + p)) None ≡ Some l → b ≡ true
  inside true is = refl
  inside false is = cc

  there : (b : Bool) → cond b (slice_get items (w * R + p)) None ≡ Some l → slice_get items (w * R + p) ≡ Some l
  there true is = is
  there false is = cc

  pub grid_here : grid_get items W R w p ≡ Some l → grid_get (slice_set items (w * R + p) m) W R w p ≡ Some m
  grid_here is = let b = inside (nat_lt w W && nat_lt p R) is in
      (λ i. cond (b i) (slice_get (slice_set items (w * R + p) m) (w * R + p)) None) ∙ get_here items (w * R + p) m l (there (nat_lt w W && nat_lt p R) is)

  same_by : (a b : Bool) (v q : ℕ) → p < R → (b ≡ true → q < R) → ((v ≡ w) → (q ≡ p) → ⊥) → cond (a && b) (slice_get (slice_set items (w * R + p) m) (v * R + q)) None ≡ cond (a && b) (slice_get items (v * R + q)) None
  same_by true true v q lp h n = get_else items (w * R + p) (v * R + q) m (apart R v q w p (h refl) lp n)
  same_by true false v q lp h n = refl
  same_by false b v q lp h n = refl

  pub grid_else : grid_get items W R w p ≡ Some l → (v q : ℕ) → ((v ≡ w) → (q ≡ p) → ⊥) → grid_get (slice_set items (w * R + p) m) W R v q ≡ grid_get items W R v q
  grid_else is v q n = let b = both_true (nat_lt w W) (nat_lt p R) (inside (nat_lt w W && nat_lt p R) is) in
      same_by (nat_lt v W) (nat_lt q R) v q (ltb-true p R b.1) (ltb-true q R) n
