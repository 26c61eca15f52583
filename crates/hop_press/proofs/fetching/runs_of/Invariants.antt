use Rattle.std.proofs.Common.{◌≡◌}
use Rattle.std.specs.List.{flat_map}
use Rattle.hop_press.specs.Faults.{pairs_in}
use Rattle.hop_press.proofs.fetching.runs_of.Given as goal

-- the runs have the pairs of the sheets so far
abbrev pub invariant-loop-sheet : goal.invariant-loop-sheet
invariant-loop-sheet l = flat_map (λ run. run.sheet) l.runs.items ≡ pairs_in l.yielded
