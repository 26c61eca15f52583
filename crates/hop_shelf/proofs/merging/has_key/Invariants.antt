use Rattle.std.proofs.Common.{◌≤◌, ◌-◌, length}
use Rattle.hop_shelf.proofs.merging.has_key.Given as goal

abbrev pub invariant-loop-low : goal.invariant-loop-low
invariant-loop-low l = l.high ≤ length l.run.sheet

abbrev pub decreases-loop-low : goal.decreases-loop-low
decreases-loop-low l = l.high - l.low
