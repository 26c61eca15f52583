use Rattle.std.proofs.Common.{◌≡◌, ◌-◌, map, take, drop}
use Rattle.hop_laws.proofs.flat_groups.set_values.Given as goal

abbrev pub invariant-loop-k : goal.invariant-loop-k
invariant-loop-k l = l.vals.items ≡ map (λ p. p.val) (take (l.k - l.from) (drop l.from l.sheet))
