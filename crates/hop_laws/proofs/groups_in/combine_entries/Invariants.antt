use Rattle.std.proofs.Common.{◌≡◌, ◌++◌, List, length}
use Rattle.std.specs.Prelude.{All, IsSorted}
use Rattle.hop_base.specs.declared.value.Pair.{Pair}
use Rattle.hop_base.specs.Order.{pair_cmp}
use Rattle.hop_laws.specs.Entries.{pairs_in, IsEntry}
use Rattle.hop_laws.specs.Stands.{combined_pairs}
use Rattle.hop_laws.proofs.groups_in.combine_entries.Given as goal

-- what was given and what the rest is combined to are what all is combined to
abbrev pub invariant-loop-rest : goal.invariant-loop-rest
invariant-loop-rest g l =
    let combine = (g.J.Job.meaning l.fn.job).combined in
    record {
      entries : All (IsEntry l.arena) l.rest;
      sorted : IsSorted pair_cmp (pairs_in l.arena l.rest);
      told : (done : List Pair) × (g.S.PairSink.takes l.fn.sink done l.sink × (done ++ combined_pairs combine (pairs_in l.arena l.rest) ≡ combined_pairs combine (pairs_in l.arena l.fn.entries)));
    }

abbrev pub decreases-loop-rest : goal.decreases-loop-rest
decreases-loop-rest g l = length l.rest
