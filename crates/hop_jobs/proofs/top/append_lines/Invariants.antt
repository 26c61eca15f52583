use Rattle.std.proofs.Common.{◌≡◌, ◌++◌, map, take}
use Rattle.std.specs.List.{flat_map}
use Rattle.hop_jobs.specs.Top.{value_line}
use Rattle.hop_jobs.proofs.top.append_lines.Given as goal

abbrev pub invariant-loop-val : goal.invariant-loop-val
invariant-loop-val l = l.out.items ≡ l.fn.out.items ++ flat_map value_line (map (λ v. v.now) (take l.val-index l.vals))
