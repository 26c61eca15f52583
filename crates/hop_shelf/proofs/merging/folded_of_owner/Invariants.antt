use Rattle.std.proofs.Common.{take}
use Rattle.hop_fold.specs.Folding.{Folds}
use Rattle.hop_shelf.specs.Kept.{is_owners, pairs_where}
use Rattle.hop_shelf.proofs.merging.folded_of_owner.Given as goal

abbrev pub invariant-loop-one : goal.invariant-loop-one
invariant-loop-one g l = Folds (g.J.Job.meaning l.fn.job).reduced l.folded (pairs_where (is_owners l.owner) (take l.one-index l.kept))
