use Rattle.std.proofs.Common.{◌≡◌, ◌++◌, length}
use Rattle.hop_run.proofs.heads.Heads.merged.Given as goal

-- the pairs so far and those that are left are all of them
abbrev pub invariant-loop-builder : goal.invariant-loop-builder
invariant-loop-builder l = l.builder ++ l.self ≡ l.initial.self

abbrev pub decreases-loop-builder : goal.decreases-loop-builder
decreases-loop-builder l = length l.self
