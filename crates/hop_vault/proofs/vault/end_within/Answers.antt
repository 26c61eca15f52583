use Rattle.std.proofs.Common.{rules}
use Rattle.std.proofs.Math.Dec.{leb}
use Rattle.std.proofs.lemmas.List.Sorted.{IsPartitionPoint-from_clause, IsPartitionedBy-leb}
use Rattle.hop_vault.specs.declared.kept.Kept.{Kept}
use Rattle.hop_vault.proofs.StretchLaws.{ends_rise}
use Rattle.hop_vault.proofs.vault.end_within.Goals as goal

pub returns-clause-place : goal.returns-clause-place
returns-clause-place c =
    IsPartitionPoint-from_clause (λ (k : Kept). leb k.to c.args.to) c.args.row.now c.partition_point.result c.partition_point.ensures.partitioned
    (IsPartitionedBy-leb (λ (k : Kept). k.to) c.args.row.now c.args.to (ends_rise 0 c.args.row.now c.requires.0 c.requires.1)) (λ a r f' k. search rules)
