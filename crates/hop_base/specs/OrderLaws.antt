-- The orders of values and pairs are total.
use Rattle.std.specs.Cmp.{IsTotalOrder}
use Rattle.std.proofs.lemmas.Cmp.{on_total, then_total, nat_cmp_total, nat_list_cmp_total}
use Rattle.hop_base.specs.Order.{val_cmp, pair_cmp}

pub val_total : IsTotalOrder val_cmp
val_total = then_total (on_total (λ v. v.n) nat_cmp_total) (on_total (λ v. v.s) nat_list_cmp_total)

pub pair_total : IsTotalOrder pair_cmp
pair_total = then_total (on_total (λ p. p.key) nat_list_cmp_total) (on_total (λ p. p.val) val_total)
