use Rattle.std.proofs.Common.{take}
use Rattle.hop_laws.proofs.job.Job.emit.Given as goal

-- the pairs so far are taken
abbrev pub invariant-loop-pair : goal.invariant-loop-pair
invariant-loop-pair g l = g.S.PairSink.takes l.fn.sink (take l.pair-index l.pair-items) l.sink
