use Rattle.std.proofs.Common.{◌≡◌, ◌++◌, take}
use Rattle.hop_base.proofs.value.Pair.copy_all.Given as goal

abbrev pub invariant-loop-pair : goal.invariant-loop-pair
invariant-loop-pair l = l.to.items ≡ l.initial.to.items ++ take l.pair-index l.pairs
