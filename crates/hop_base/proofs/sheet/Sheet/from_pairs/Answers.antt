use Rattle.hop_base.specs.Order.{pair_cmp}
use Rattle.hop_base.proofs.Sorted.{ord_sorted, IsAscending-IsSorted}
use Rattle.hop_base.proofs.OrderLaws.{pair_total, pair_exact}
use Rattle.hop_base.proofs.sheet.Sheet.from_pairs.Goals as goal

-- what a sort leaves is determined
pub returns-clause-exact : goal.returns-clause-exact
returns-clause-exact c = ord_sorted pair_cmp pair_total pair_exact c.args.pairs.items c.sort_unstable.new.self.items c.sort_unstable.ensures.permutation (IsAscending-IsSorted pair_cmp pair_total c.sort_unstable.new.self.items c.sort_unstable.ensures.sorted)
