use Rattle.std.proofs.Common.{◌≡◌, take}
use Rattle.hop_jobs.specs.Max.{greatest}
use Rattle.hop_jobs.proofs.max.greatest.Given as goal

abbrev pub invariant-loop-val : goal.invariant-loop-val
invariant-loop-val l = l.most ≡ greatest (take l.val-index l.vals)
