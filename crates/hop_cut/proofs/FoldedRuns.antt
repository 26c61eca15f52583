-- The pairs of runs, folded run by run.
use Rattle.std.proofs.Common.{◌≡◌, ℕ, ◌+◌, ◌<◌, List, [], ◌∷◌, ◌++◌, length, take, get_or, sym, ap, subst, ◌∙◌}
use Rattle.std.specs.List.{flat_map}
use Rattle.std.proofs.lemmas.List.{append-nil, take_more}
use Rattle.std.proofs.lemmas.List.Concat.{flat_map-append}
use Rattle.hop_base.specs.declared.value.Pair.{Pair}
use Rattle.hop_base.specs.declared.value.Val.{Val}
use Rattle.hop_run.specs.Runs.{RunValue}
use Rattle.hop_fold.specs.Folding.{Folds}

-- the pairs of all these runs
abbrev pub pairs_of_runs : List RunValue → List Pair
pairs_of_runs runs = flat_map (λ run. run.sheet) runs

-- one more run
pub folds_run : (reduce : List ℕ → List Val → List ℕ) (old new sheet : List Pair) (runs : List RunValue) (i : ℕ) (d : RunValue) → i < length runs → sheet ≡ (get_or runs i d).sheet → ((pairs : List Pair) → Folds reduce old pairs → Folds reduce new (pairs ++ sheet))
    → Folds reduce old (pairs_of_runs (take i runs)) → Folds reduce new (pairs_of_runs (take (i + 1) runs))
folds_run reduce old new sheet runs i d within is takes f =
    let run : RunValue = get_or runs i d in
    subst (Folds reduce new)
    (ap (λ ps. pairs_of_runs (take i runs) ++ ps) (is ∙ sym (append-nil run.sheet))
    ∙ sym (flat_map-append (λ (r : RunValue). r.sheet) (take i runs) (run ∷ []))
    ∙ ap pairs_of_runs (sym (take_more runs i d within)))
    (takes (pairs_of_runs (take i runs)) f)
