use Rattle.std.proofs.Common.{List, map, take, ap, sym, subst, ◌∙◌, rules, Bor}
use Rattle.std.specs.List.Sorted.{IsPermutation, IsSorted}
use Rattle.std.specs.Ordering.{is_lt}
use Rattle.std.proofs.lemmas.List.{take-map}
use Rattle.std.proofs.lemmas.List.Sorted.{ranks_by, answers_always, IsPermutation-map}
use Rattle.hop_base.specs.declared.value.Val.{Val}
use Rattle.hop_base.proofs.Sorted.{IsAscending-IsSorted, ord_sorted}
use Rattle.hop_jobs.specs.Top.{best_cmp}
use Rattle.hop_jobs.specs.TopLaws.{best_total, best_exact}
use Rattle.hop_jobs.proofs.BestLaws.{sorted_values}
use Rattle.hop_jobs.proofs.top.best_of_all.Goals as goal

pub returns : goal.returns
returns c =
    let now : Bor Val → Val = λ v. v.now in
    let refs : List (Bor Val) = c.in_ok-kept.kept.items in
    let sorted : List (Bor Val) = c.sort_unstable_by.new.self.items in
    let order : IsSorted best_cmp (map now sorted) =
    sorted_values sorted (c.sort_unstable_by.ensures.sorted (λ x y. is_lt (best_cmp x.now y.now)) (ranks_by best_total now) (answers_always _ _ _ (λ f a r f' k. search rules))) in
    let same : IsPermutation c.args.vals.now (map now sorted) =
    subst (λ (vs : List Val). IsPermutation vs (map now sorted)) c.in_ok-kept.ensures (IsPermutation-map now refs sorted c.sort_unstable_by.ensures.permutation) in
    ap (map now) c.truncate.ensures.items
    ∙ sym (take-map now c.args.k sorted)
    ∙ ap (take c.args.k) (ord_sorted best_cmp best_total best_exact c.args.vals.now (map now sorted) same (IsAscending-IsSorted best_cmp best_total (map now sorted) order))
