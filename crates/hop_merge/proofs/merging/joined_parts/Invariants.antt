use Rattle.std.proofs.Common.{◌≡◌, take}
use Rattle.std.specs.List.{flat_map}
use Rattle.hop_merge.proofs.merging.joined_parts.Given as goal

abbrev pub invariant-loop-run : goal.invariant-loop-run
invariant-loop-run l = l.parts.items ≡ flat_map (λ r. r.parts) (take l.run-index l.runs)
