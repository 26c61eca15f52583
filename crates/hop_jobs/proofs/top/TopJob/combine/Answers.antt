use Rattle.std.proofs.Common.{ap, ◌∙◌}
use Rattle.hop_base.specs.Order.{val_cmp}
use Rattle.hop_base.specs.Sorted.{ord}
use Rattle.hop_base.proofs.Sorted.{IsAscending-IsSorted, ord_sorted}
use Rattle.hop_base.proofs.OrderLaws.{val_total, val_exact}
use Rattle.hop_jobs.proofs.top.TopJob.combine.Goals as goal

pub returns : goal.returns
returns c =
    ord_sorted val_cmp val_total val_exact c.best-kept.result.items c.sort_unstable.new.self.items c.sort_unstable.ensures.permutation (IsAscending-IsSorted val_cmp val_total _ c.sort_unstable.ensures.sorted)
    ∙ ap (ord val_cmp) c.best-kept.ensures
