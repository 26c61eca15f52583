-- What is known of each of some items.
use Rattle.std.proofs.Common.{◌≡◌, ℕ, ◌+◌, ◌<◌, List, [], ◌∷◌, length, take, get_or, sym, ap, ◌∙◌, subst}
use Rattle.std.specs.Prelude.{All}
use Rattle.std.proofs.lemmas.List.{take_more}
use Rattle.std.proofs.Math.Seq.{take-length}
use Rattle.std.proofs.lemmas.List.Elements.{All-nil, All-cons, All-append}

module _ {X : Type 0} (P : X → Type 0) (xs : List X) where
  -- one more is known
  pub one_more : (i : ℕ) (x : X) → x ≡ get_or xs i x → i < length xs → All P (take i xs) → P x → All P (take (i + 1) xs)
  one_more i x at below h p =
      subst (λ (ys : List X). All P ys) (sym (take_more xs i x below)) (All-append P (take i xs) (get_or xs i x ∷ []) h (All-cons P (get_or xs i x) [] (subst P at p) (All-nil P)))

  -- all are known
  pub all_of : (i : ℕ) → i ≡ length xs → All P (take i xs) → All P xs
  all_of i e h = subst (λ (ys : List X). All P ys) (ap (λ n. take n xs) e ∙ take-length xs) h
