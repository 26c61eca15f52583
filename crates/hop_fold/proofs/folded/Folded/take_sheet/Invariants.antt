use Rattle.std.proofs.Common.{List, ◌++◌, take}
use Rattle.hop_base.specs.declared.value.Pair.{Pair}
use Rattle.hop_fold.specs.Folding.{Folds}
use Rattle.hop_fold.proofs.folded.Folded.take_sheet.Given as goal

-- the pairs before this one came
abbrev pub invariant-loop-k : goal.invariant-loop-k
invariant-loop-k g l = (pairs : List Pair) → Folds (g.J.Job.meaning l.fn.job).reduced l.fn.self pairs → Folds (g.J.Job.meaning l.fn.job).reduced l.self (pairs ++ take l.k l.sheet)
