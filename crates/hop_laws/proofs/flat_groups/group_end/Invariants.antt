use Rattle.std.proofs.Common.{◌-◌, ◌<◌, ◌≤◌, take, drop, length}
use Rattle.hop_laws.specs.Groups.{first_key, AllHaveKey}
use Rattle.hop_laws.proofs.flat_groups.group_end.Given as goal

abbrev pub invariant-loop-end : goal.invariant-loop-end
invariant-loop-end l = record {
  some : l.at < l.end;
  within : l.end ≤ length l.sheet;
  together : AllHaveKey (first_key (drop l.at l.sheet)) (take (l.end - l.at) (drop l.at l.sheet));
}

abbrev pub decreases-loop-end : goal.decreases-loop-end
decreases-loop-end l = length l.sheet - l.end
