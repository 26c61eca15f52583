use Rattle.std.proofs.Common.{◌-◌, ◌<◌, ◌≤◌, take, length}
use Rattle.hop_laws.specs.Entries.{pairs_in}
use Rattle.hop_laws.specs.Groups.{first_key, AllHaveKey}
use Rattle.hop_laws.proofs.groups_in.group_len.Given as goal

abbrev pub invariant-loop-end : goal.invariant-loop-end
invariant-loop-end l = record {
  some : 0 < l.end;
  within : l.end ≤ length l.entries;
  together : AllHaveKey (first_key (pairs_in l.arena l.entries)) (take l.end (pairs_in l.arena l.entries));
}

abbrev pub decreases-loop-end : goal.decreases-loop-end
decreases-loop-end l = length l.entries - l.end
