-- The orders of keys, values and pairs are total, and tell different ones apart.
use Rattle.std.proofs.Common.{ℕ, List, ap}
use Rattle.std.specs.Ordering.{nat_cmp}
use Rattle.std.specs.Cmp.{IsTotalOrder}
use Rattle.std.proofs.lemmas.Cmp.{nat_list_cmp_total}
use Rattle.std.proofs.lemmas.Map.Lookups.{CmpEqualImpliesEq, exact_unsigned, exact_bytes, exact_pairs}
use Rattle.hop_base.specs.declared.value.Val.{Val}
use Rattle.hop_base.specs.Order.{key_cmp, val_cmp, pair_cmp}
pub use Rattle.hop_base.specs.OrderLaws.{val_total, pair_total}

pub key_total : IsTotalOrder key_cmp
key_total = nat_list_cmp_total

pub key_exact : CmpEqualImpliesEq key_cmp
key_exact = exact_bytes

pub val_exact : CmpEqualImpliesEq val_cmp
val_exact a b h = ap (λ (p : ℕ × List ℕ). record { n = p.0; s = p.1 }) (exact_pairs nat_cmp key_cmp exact_unsigned exact_bytes (a.n, a.s) (b.n, b.s) h)

pub pair_exact : CmpEqualImpliesEq pair_cmp
pair_exact a b h = ap (λ (p : List ℕ × Val). record { key = p.0; val = p.1 }) (exact_pairs key_cmp val_cmp exact_bytes val_exact (a.key, a.val) (b.key, b.val) h)
