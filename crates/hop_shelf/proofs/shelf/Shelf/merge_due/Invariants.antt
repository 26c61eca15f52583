use Rattle.std.proofs.Common.{◌≡◌, length}
use Rattle.hop_shelf.proofs.shelf.Shelf.merge_due.Given as goal

abbrev pub invariant-loop-m : goal.invariant-loop-m
invariant-loop-m g l = (l.self.journal ≡ l.fn.self.journal) × (l.self.p ≡ l.fn.self.p)

abbrev pub decreases-loop-m : goal.decreases-loop-m
decreases-loop-m g l = length l.self.kept
