-- The bytes that a text begins with and that pass a test are determined.
use Rattle.std.proofs.Common.{◌≡◌, ℕ, Bool, true, false, List, [], ◌∷◌, ◌++◌, refl, sym, ◌∙◌, subst}
use Rattle.std.specs.List.{list_all}
use Rattle.std.proofs.lemmas.Bool.{true≢false}
use Rattle.hop_base.specs.Fronts.{StopsAt}
use Rattle.hop_base.proofs.Truth.{both_true}

module _ (test : ℕ → Bool) where
  pub first_passes : (c : ℕ) (ds : List ℕ) → list_all test (c ∷ ds) ≡ true → test c ≡ true
  first_passes c ds h = (both_true (test c) (list_all test ds) h).0

  pub rest_passes : (c : ℕ) (ds : List ℕ) → list_all test (c ∷ ds) ≡ true → list_all test ds ≡ true
  rest_passes c ds h = (both_true (test c) (list_all test ds) h).1

  -- the bytes that a text begins with and that pass, and what follows them, are determined
  pub front_unique : (ds r es s : List ℕ) → list_all test ds ≡ true → StopsAt test r → list_all test es ≡ true → StopsAt test s → ds ++ r ≡ es ++ s → (ds ≡ es) × (r ≡ s)
  front_unique [] r [] s h k i j e = (refl, e)
  front_unique [] [] (c ∷ es) s h k i j e = absurd (cc)
  front_unique [] (d ∷ r) (c ∷ es) s h k i j e = let same : d ≡ c = cc in absurd (true≢false (sym (first_passes c es i) ∙ subst (λ x. test x ≡ false) same k))
  front_unique (c ∷ ds) r [] [] h k i j e = absurd (cc)
  front_unique (c ∷ ds) r [] (d ∷ s) h k i j e = let same : d ≡ c = cc in absurd (true≢false (sym (first_passes c ds h) ∙ subst (λ x. test x ≡ false) same j))
  front_unique (c ∷ ds) r (d ∷ es) s h k i j e =
      let same : c ≡ d = cc in
      let rest : ds ++ r ≡ es ++ s = cc in
      let both = front_unique ds r es s (rest_passes c ds h) k (rest_passes d es i) j rest in
      (cc, both.1)
