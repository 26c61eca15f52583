use Rattle.std.proofs.Common.{take}
use Rattle.hop_fold.specs.Folding.{Folds}
use Rattle.hop_cut.proofs.FoldedRuns.{pairs_of_runs}
use Rattle.hop_cut.proofs.cut.body.Given as goal

-- the runs before this one are folded
abbrev pub invariant-loop-run : goal.invariant-loop-run
invariant-loop-run g l = Folds (g.J.Job.meaning l.fn.job).reduced l.pairs (pairs_of_runs (take l.run-index l.runs))
