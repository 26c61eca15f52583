use Rattle.std.proofs.Common.{take, ap, ◌∙◌, rules}
use Rattle.std.specs.Ordering.{is_lt}
use Rattle.std.specs.Prelude.{IsSorted}
use Rattle.std.proofs.lemmas.List.Sorted.{ranks_by, answers_always}
use Rattle.hop_base.specs.declared.value.Val.{Val}
use Rattle.hop_base.proofs.Sorted.{IsAscending-IsSorted, ord_sorted}
use Rattle.hop_jobs.specs.Top.{best_cmp}
use Rattle.hop_jobs.specs.TopLaws.{best_total, best_exact}
use Rattle.hop_jobs.proofs.top.best.Goals as goal

pub returns : goal.returns
returns c =
    let sorted : IsSorted best_cmp c.sort_unstable_by.new.self.items =
    c.sort_unstable_by.ensures.sorted (λ x y. is_lt (best_cmp x y)) (ranks_by best_total (λ (v : Val). v)) (answers_always _ _ _ (λ f a r f' k. search rules)) in
    c.truncate.ensures.items ∙ ap (take c.args.k) (ord_sorted best_cmp best_total best_exact c.args.vals.items c.sort_unstable_by.new.self.items c.sort_unstable_by.ensures.permutation (IsAscending-IsSorted best_cmp best_total _ sorted))
