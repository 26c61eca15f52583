use Rattle.std.proofs.Common.{◌≡◌, take}
use Rattle.hop_jobs.specs.Adding.{saturating_sum}
use Rattle.hop_jobs.proofs.numbers.sum.Given as goal

abbrev pub invariant-loop-val : goal.invariant-loop-val
invariant-loop-val l = l.total ≡ saturating_sum (take l.val-index l.vals)
