-- References in the order of their values.
use Rattle.std.proofs.Common.{◌≡◌, ◌+◌, List, map, get_or, ap, ◌∙◌, Bor}
use Rattle.std.specs.List.Sorted.{IsSorted, IsSortedBy}
use Rattle.std.specs.Ordering.{is_lt}
use Rattle.std.proofs.Common.{arith}
use Rattle.std.proofs.Math.ListN.{get_or-map}
use Rattle.std.proofs.lemmas.List.{length-map}
use Rattle.hop_base.specs.declared.value.Val.{Val}
use Rattle.hop_jobs.specs.Top.{best_cmp}

pub sorted_values : (refs : List (Bor Val)) → IsSortedBy (λ x y. is_lt (best_cmp x.now y.now)) refs → IsSorted best_cmp (map (λ v. v.now) refs)
sorted_values refs h = λ k d lo hi.
    let now : Bor Val → Val = λ v. v.now in
    let at : Bor Val = record { ref_ptr = (0, 0); now = d } in
    let later : get_or (map now refs) (k + 1) d ≡ (get_or refs (k + 1) at).now = get_or-map now refs (k + 1) at in
    let here : get_or (map now refs) k d ≡ (get_or refs k at).now = get_or-map now refs k at in
    ap (λ x. is_lt (best_cmp x (get_or (map now refs) k d))) later
    ∙ ap (λ x. is_lt (best_cmp (get_or refs (k + 1) at).now x)) here
    ∙ h k at lo (omega (arith, length-map refs now))
