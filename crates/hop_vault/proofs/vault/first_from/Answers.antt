use Rattle.std.proofs.Common.{rules, ltb}
use Rattle.std.proofs.lemmas.List.Sorted.{IsPartitionPoint-from_clause, IsPartitionedBy-ltb}
use Rattle.hop_vault.specs.declared.kept.Kept.{Kept}
use Rattle.hop_vault.proofs.StretchLaws.{begins_rise}
use Rattle.hop_vault.proofs.vault.first_from.Goals as goal

pub returns-clause-place : goal.returns-clause-place
returns-clause-place c =
    IsPartitionPoint-from_clause (λ (k : Kept). ltb k.from c.args.from) c.args.row.now c.partition_point.result c.partition_point.ensures.partitioned
    (IsPartitionedBy-ltb (λ (k : Kept). k.from) c.args.row.now c.args.from (begins_rise 0 c.args.row.now c.requires.0 c.requires.1)) (λ a r f' k. search rules)
