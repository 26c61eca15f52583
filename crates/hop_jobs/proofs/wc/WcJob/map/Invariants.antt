use Rattle.std.proofs.Common.{◌≡◌, ◌≤◌, ◌++◌, length}
use Rattle.hop_jobs.specs.Wc.{wc_emits}
use Rattle.hop_jobs.proofs.wc.WcJob.map.Given as goal

-- the pairs so far and those of the rest are those of the line
abbrev pub invariant-loop-end : goal.invariant-loop-end
invariant-loop-end l = record {
  told : l.pairs.items ++ wc_emits l.rest ≡ wc_emits l.fn.line;
  short : length l.rest ≤ length l.fn.line;
}

abbrev pub decreases-loop-end : goal.decreases-loop-end
decreases-loop-end l = length l.rest
