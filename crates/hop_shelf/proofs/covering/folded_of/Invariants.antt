use Rattle.std.proofs.Common.{take}
use Rattle.hop_fold.specs.Folding.{Folds}
use Rattle.hop_shelf.specs.declared.kept.Kept.{Kept}
use Rattle.hop_shelf.specs.Covered.{covers_in}
use Rattle.hop_shelf.specs.Kept.{pairs_where}
use Rattle.hop_shelf.proofs.covering.folded_of.Given as goal

abbrev pub invariant-loop-one : goal.invariant-loop-one
invariant-loop-one g l = Folds (g.J.Job.meaning l.fn.job).reduced l.folded (pairs_where (λ (k : Kept). covers_in l.declarations k.owner) (take l.one-index l.kept))
