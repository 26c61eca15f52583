use Rattle.std.proofs.Common.{◌≡◌, take}
use Rattle.std.specs.List.{flat_map}
use Rattle.hop_base.specs.Order.{pair_cmp}
use Rattle.hop_base.specs.Sorted.{ord}
use Rattle.hop_run.proofs.run.Run.merged_pairs.Given as goal

abbrev pub invariant-loop-run : goal.invariant-loop-run
invariant-loop-run l = l.heads ≡ ord pair_cmp (flat_map (λ r. r.sheet) (take l.run-index l.runs))
