use Rattle.std.proofs.Common.{◌≡◌, ◌++◌, take}
use Rattle.hop_laws.specs.Stands.{pairs_at}
use Rattle.hop_laws.proofs.flat_groups.append_at.Given as goal

abbrev pub invariant-loop-val : goal.invariant-loop-val
invariant-loop-val l = l.to ≡ l.fn.to ++ pairs_at l.key (take l.val-index l.vals)
