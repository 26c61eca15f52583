use Rattle.std.proofs.Common.{take}
use Rattle.std.specs.Prelude.{All}
use Rattle.hop_base.specs.Order.{IsValidPair}
use Rattle.hop_base.proofs.value.Pair.all_known.Given as goal

abbrev pub invariant-loop-pair : goal.invariant-loop-pair
invariant-loop-pair l = All IsValidPair (take l.pair-index l.pairs)
