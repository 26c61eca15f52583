-- The pairs of the runs that pass a test, folded run by run.
use Rattle.std.proofs.Common.{◌≡◌, ℕ, ◌+◌, ◌<◌, Bool, true, false, cond, List, [], ◌∷◌, ◌++◌, length, map, take, get_or, ap, sym, subst, ◌∙◌}
use Rattle.std.specs.Prelude.{filter}
use Rattle.std.specs.List.{flat_map}
use Rattle.std.proofs.lemmas.List.{append-nil, map-append, take_more}
use Rattle.std.proofs.lemmas.List.Concat.{flat_map-append}
use Rattle.std.proofs.lemmas.List.Elements.{filter-append}
use Rattle.hop_base.specs.declared.value.Pair.{Pair}
use Rattle.hop_base.specs.declared.value.Val.{Val}
use Rattle.hop_run.specs.Runs.{RunValue}
use Rattle.hop_fold.specs.Folding.{Folds}
use Rattle.hop_shelf.specs.declared.kept.Kept.{Kept}
use Rattle.hop_shelf.specs.Kept.{pairs_where}

module _ (test : Kept → Bool) where
  where-append : (ks ls : List Kept) → pairs_where test (ks ++ ls) ≡ pairs_where test ks ++ pairs_where test ls
  where-append ks ls =
      ap (λ ms. flat_map (λ (r : RunValue). r.sheet) (map (λ (k : Kept). k.run) ms)) (filter-append test ks ls)
      ∙ ap (flat_map (λ (r : RunValue). r.sheet)) (map-append (λ (k : Kept). k.run) (filter test ks) (filter test ls))
      ∙ flat_map-append (λ (r : RunValue). r.sheet) (map (λ (k : Kept). k.run) (filter test ks)) (map (λ (k : Kept). k.run) (filter test ls))

  where_one : (k : Kept) (b : Bool) → test k ≡ b → pairs_where test (k ∷ []) ≡ cond b k.run.sheet []
  where_one k true e = ap (λ b. flat_map (λ (r : RunValue). r.sheet) (map (λ (m : Kept). m.run) (cond b (k ∷ []) []))) e ∙ append-nil k.run.sheet
  where_one k false e = ap (λ b. flat_map (λ (r : RunValue). r.sheet) (map (λ (m : Kept). m.run) (cond b (k ∷ []) []))) e

  where_take : (kept : List Kept) (i : ℕ) (d : Kept) (b : Bool) → i < length kept → test (get_or kept i d) ≡ b → pairs_where test (take (i + 1) kept) ≡ pairs_where test (take i kept) ++ cond b (get_or kept i d).run.sheet []
  where_take kept i d b lt e =
      let one : Kept = get_or kept i d in
      ap (pairs_where test) (take_more kept i d lt)
      ∙ where-append (take i kept) (one ∷ [])
      ∙ ap (λ ps. pairs_where test (take i kept) ++ ps) (where_one one b e)

  -- a run that passes
  pub folds_passed : (reduce : List ℕ → List Val → List ℕ) (old new sheet : List Pair) (kept : List Kept) (i : ℕ) (d : Kept) → i < length kept → test (get_or kept i d) ≡ true → sheet ≡ (get_or kept i d).run.sheet → ((pairs : List Pair) → Folds reduce old pairs → Folds reduce new (pairs ++ sheet))
      → Folds reduce old (pairs_where test (take i kept)) → Folds reduce new (pairs_where test (take (i + 1) kept))
  folds_passed reduce old new sheet kept i d lt e is takes f =
      subst (Folds reduce new) (ap (λ ps. pairs_where test (take i kept) ++ ps) is ∙ sym (where_take kept i d true lt e)) (takes (pairs_where test (take i kept)) f)

  -- a run that doesn't
  pub folds_skipped : (reduce : List ℕ → List Val → List ℕ) (folded : List Pair) (kept : List Kept) (i : ℕ) (d : Kept) → i < length kept → test (get_or kept i d) ≡ false → Folds reduce folded (pairs_where test (take i kept)) → Folds reduce folded (pairs_where test (take (i + 1) kept))
  folds_skipped reduce folded kept i d lt e f = subst (Folds reduce folded) (sym (append-nil (pairs_where test (take i kept))) ∙ sym (where_take kept i d false lt e)) f
