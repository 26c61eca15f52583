use Rattle.std.proofs.Common.{◌≡◌, ◌≤◌, ◌++◌, List, length}
use Rattle.hop_base.specs.declared.value.Pair.{Pair}
use Rattle.hop_jobs.specs.Wc.{wc_emits}
use Rattle.hop_jobs.proofs.wc.WcJob.emit.Given as goal

-- the pairs so far and those of the rest are those of the line
abbrev pub invariant-loop-end : goal.invariant-loop-end
invariant-loop-end g l = record {
  told : (done : List Pair) × (g.S.PairSink.takes l.fn.sink done l.sink × (done ++ wc_emits l.rest ≡ wc_emits l.fn.line));
  short : length l.rest ≤ length l.fn.line;
}

abbrev pub decreases-loop-end : goal.decreases-loop-end
decreases-loop-end g l = length l.rest
