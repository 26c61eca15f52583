use Rattle.std.proofs.Common.{◌≡◌, ◌++◌, take, drop, map}
use Rattle.hop_shelf.specs.Kept.{committed_by}
use Rattle.hop_shelf.proofs.kept.commit.Given as goal

abbrev pub invariant-loop-one : goal.invariant-loop-one
invariant-loop-one l = l.kept ≡ map (committed_by l.split l.attempt) (take l.one-index l.fn.kept) ++ drop l.one-index l.fn.kept
