use Rattle.std.proofs.Common.{◌≡◌, map, take}
use Rattle.hop_jobs.proofs.top.lent.Given as goal

abbrev pub invariant-loop-val : goal.invariant-loop-val
invariant-loop-val l = map (λ v. v.now) l.refs.items ≡ take l.val-index l.vals
