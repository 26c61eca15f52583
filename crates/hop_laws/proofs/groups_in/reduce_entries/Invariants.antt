use Rattle.std.proofs.Common.{◌≡◌, ◌++◌, length}
use Rattle.std.specs.Prelude.{All, IsSorted}
use Rattle.hop_base.specs.Order.{pair_cmp}
use Rattle.hop_laws.specs.Entries.{pairs_in, IsEntry}
use Rattle.hop_laws.specs.Groups.{red}
use Rattle.hop_laws.proofs.groups_in.reduce_entries.Given as goal

-- the text so far and the reduction of what is left are the whole reduction
abbrev pub invariant-loop-rest : goal.invariant-loop-rest
invariant-loop-rest g l =
    let reduce = (g.J.Job.meaning l.fn.job).reduced in
    record {
      entries : All (IsEntry l.arena) l.rest;
      sorted : IsSorted pair_cmp (pairs_in l.arena l.rest);
      told : l.text.items ++ red reduce (pairs_in l.arena l.rest) ≡ red reduce (pairs_in l.arena l.fn.entries);
    }

abbrev pub decreases-loop-rest : goal.decreases-loop-rest
decreases-loop-rest g l = length l.rest
