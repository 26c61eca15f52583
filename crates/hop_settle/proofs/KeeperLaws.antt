-- Who kept most of an attempt.
use Rattle.std.proofs.Common.{◌≡◌, ◌⊎◌, ℕ, zero, suc, ◌+◌, ◌≤◌, ◌<◌, List, [], ◌∷◌, Some, refl, sym, ap, ◌∙◌, inl, inr, arith}
use Rattle.std.specs.List.{slice_get}
use Rattle.hop_machine.specs.actors.MapperTurns.{Mapper}
use Rattle.hop_machine.specs.play.Play.{kept_by}
use Rattle.hop_machine.proofs.ending.Winners.{less_or_not}
use Rattle.hop_settle.specs.Pulled.{IsKeeper}

-- no mapper kept more than this
pub kept-least : (ms : List Mapper) (i a n : ℕ) → ((k : ℕ) (m : Mapper) → slice_get ms k ≡ Some m → m.kept i a ≤ n) → kept_by ms i a ≤ n
kept-least [] i a n h = omega arith
kept-least (m ∷ ms) i a n h = let x = h zero m refl in let y = kept-least ms i a n (λ k o g. h (suc k) o g) in omega (arith, x, y)

-- each kept as much at most
pub kept-above : (ms : List Mapper) (i a k : ℕ) (m : Mapper) → slice_get ms k ≡ Some m → m.kept i a ≤ kept_by ms i a
kept-above [] i a k m h = cc
kept-above (n ∷ ms) i a zero m h = let same : n ≡ m = cc in let e = ap (λ (x : Mapper). x.kept i a) same in omega (arith, e)
kept-above (n ∷ ms) i a (suc k) m h = let x = kept-above ms i a k m h in omega (arith, x)

module _ (ms : List Mapper) (i a w : ℕ) (m : Mapper) (is : slice_get ms w ≡ Some m) where
  -- one mapper more
  pub most-more : (old new : ℕ) → old ≤ new → m.kept i a ≤ new → ((k : ℕ) (n : Mapper) → k < w → slice_get ms k ≡ Some n → n.kept i a ≤ old) → (k : ℕ) (n : Mapper) → k < w + 1 → slice_get ms k ≡ Some n → n.kept i a ≤ new
  most-more old new le l h k n below g = of (less_or_not k w)
    where
      of : (k < w) ⊎ (w ≤ k) → n.kept i a ≤ new
      of (inl x) = let y = h k n x g in omega (arith, y, le)
      of (inr x) =
          let at : k ≡ w = omega (arith, x, below) in
          let there : slice_get ms w ≡ Some n = ap (λ j. slice_get ms j) (sym at) ∙ g in
          let same : n ≡ m = (let both : Some n ≡ Some m = sym there ∙ is in cc) in
          let e = ap (λ (z : Mapper). z.kept i a) same in omega (arith, e, l)

  pub keeps-it : (end : ℕ) → m.kept i a ≡ end → IsKeeper ms i a w end
  keeps-it end e = record { keeper = m; here = is; kept = e }

-- of all mappers none kept more than the best one
pub kept-is : (ms : List Mapper) (i a place end : ℕ) → ((k : ℕ) (m : Mapper) → slice_get ms k ≡ Some m → m.kept i a ≤ end) → (0 < end → IsKeeper ms i a place end) → end ≡ kept_by ms i a
kept-is ms i a place end most keeper = of (less_or_not 0 end)
  where
    low : kept_by ms i a ≤ end
    low = kept-least ms i a end most

    of : (0 < end) ⊎ (end ≤ 0) → end ≡ kept_by ms i a
    of (inl x) = let k = keeper x in let y = kept-above ms i a place k.keeper k.here in let e = k.kept in omega (arith, low, y, e)
    of (inr x) = omega (arith, low, x)

pub keeper-same : (ms : List Mapper) (i a p q x y : ℕ) → q ≡ p → y ≡ x → IsKeeper ms i a p x → IsKeeper ms i a q y
keeper-same ms i a p q x y at end k = record { keeper = k.keeper; here = ap (λ j. slice_get ms j) at ∙ k.here; kept = k.kept ∙ sym end }

-- the same of the attempts that they began
pub most-begun : (ms : List Mapper) (i w : ℕ) (m : Mapper) → slice_get ms w ≡ Some m → (old new : ℕ) → old ≤ new → m.begun i ≤ new → ((k : ℕ) (n : Mapper) → k < w → slice_get ms k ≡ Some n → n.begun i ≤ old) → (k : ℕ) (n : Mapper) → k < w + 1 → slice_get ms k ≡ Some n → n.begun i ≤ new
most-begun ms i w m is old new le l h k n below g = of (less_or_not k w)
  where
    of : (k < w) ⊎ (w ≤ k) → n.begun i ≤ new
    of (inl x) = let y = h k n x g in omega (arith, y, le)
    of (inr x) =
        let at : k ≡ w = omega (arith, x, below) in
        let there : slice_get ms w ≡ Some n = ap (λ j. slice_get ms j) (sym at) ∙ g in
        let same : n ≡ m = (let both : Some n ≡ Some m = sym there ∙ is in cc) in
        let e = ap (λ (z : Mapper). z.begun i) same in omega (arith, e, l)
