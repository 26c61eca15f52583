-- The lane that is at a place.
use Rattle.std.proofs.Common.{◌≡◌, ℕ, ◌+◌, ◌*◌, ◌<◌, ◌==◌, ◌&&◌, Bool, true, false, nat_lt, cond, List, [], ◌∷◌, length, Option, Some, None, refl, sym, ap, ◌∙◌, arith, zero, suc}
use Rattle.std.specs.List.{slice_get}
use Rattle.std.proofs.lemmas.Bool.{eqb-true}
use Rattle.hop_lane.specs.PlainLanes.{Lane}
use Rattle.hop_crew.specs.PlainWorlds.{is_lane, same_numbers, grid_get}
use Rattle.hop_crew.specs.Grid.{both_true}

pub same_numbers-true : (xs ys : List ℕ) → same_numbers xs ys ≡ true → xs ≡ ys
same_numbers-true [] [] h = refl
same_numbers-true (x ∷ xs) (y ∷ ys) h = let t = both_true (x == y) (same_numbers xs ys) h in λ i. eqb-true x y t.0 i ∷ same_numbers-true xs ys t.1 i
same_numbers-true [] (y ∷ ys) h = cc
same_numbers-true (x ∷ xs) [] h = cc

pub lane_is : {T : Type 0} (name : List ℕ) (w p : ℕ) (l : Lane T) → is_lane name w p (Some l) ≡ true → l.key ≡ record { mapper = w; reducer = p; board = name }
lane_is name w p l h =
    let t = both_true ((l.key.mapper == w) && (l.key.reducer == p)) (same_numbers l.key.board name) h in
    let u = both_true (l.key.mapper == w) (l.key.reducer == p) t.0 in
    λ i. record { mapper = eqb-true l.key.mapper w u.0 i; reducer = eqb-true l.key.reducer p u.1 i; board = same_numbers-true l.key.board name t.1 i }

module _ {T : Type 0} where
  short : (xs : List (Lane T)) (i : ℕ) (name : List ℕ) (w p : ℕ) → is_lane name w p (slice_get xs i) ≡ true → i < length xs
  short [] i name w p h = cc
  short (x ∷ xs) zero name w p h = omega arith
  short (x ∷ xs) (suc i) name w p h = let k = short xs i name w p h in omega arith

  inside : (b : Bool) (r : Option (Lane T)) (name : List ℕ) (w p : ℕ) → is_lane name w p (cond b r None) ≡ true → (b ≡ true) × (is_lane name w p r ≡ true)
  inside true r name w p h = (refl, h)
  inside false r name w p h = cc

  module _ (items : List (Lane T)) (W R w p : ℕ) (name : List ℕ) (h : is_lane name w p (grid_get items W R w p) ≡ true) where
    pub place_within : w * R + p < length items
    place_within = short items (w * R + p) name w p (inside (nat_lt w W && nat_lt p R) (slice_get items (w * R + p)) name w p h).1

    pub place_is : (l : Lane T) → slice_get items (w * R + p) ≡ Some l → grid_get items W R w p ≡ Some l
    place_is l e = let t = inside (nat_lt w W && nat_lt p R) (slice_get items (w * R + p)) name w p h in (λ i. cond (t.0 i) (slice_get items (w * R + p)) None) ∙ e

    pub place_key : (l : Lane T) → grid_get items W R w p ≡ Some l → l.key ≡ record { mapper = w; reducer = p; board = name }
    place_key l e = lane_is name w p l (ap (is_lane name w p) (sym e) ∙ h)
