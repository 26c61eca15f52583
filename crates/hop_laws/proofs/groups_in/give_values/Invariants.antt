use Rattle.std.proofs.Common.{take}
use Rattle.hop_laws.specs.Stands.{pairs_at}
use Rattle.hop_laws.proofs.groups_in.give_values.Given as goal

abbrev pub invariant-loop-val : goal.invariant-loop-val
invariant-loop-val g l = g.S.PairSink.takes l.fn.sink (pairs_at l.key (take l.val-index l.vals)) l.sink
