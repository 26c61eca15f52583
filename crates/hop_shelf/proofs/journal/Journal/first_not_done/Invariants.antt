use Rattle.std.proofs.Common.{ℕ, ◌<◌}
use Rattle.hop_shelf.specs.Finish.{IsDone}
use Rattle.hop_shelf.proofs.journal.Journal.first_not_done.Given as goal

abbrev pub invariant-loop-i : goal.invariant-loop-i
invariant-loop-i l = (k : ℕ) → k < l.i → IsDone l.self l.begun k
