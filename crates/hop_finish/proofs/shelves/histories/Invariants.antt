use Rattle.std.proofs.Common.{◌≡◌, map}
use Rattle.hop_finish.proofs.shelves.histories.Given as goal

abbrev pub invariant-loop-shelf : goal.invariant-loop-shelf
invariant-loop-shelf g l = map (λ h. h.events) l.histories.items ≡ map (λ s. s.journal.events) l.yielded
