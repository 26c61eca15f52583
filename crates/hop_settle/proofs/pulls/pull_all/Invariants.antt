use Rattle.std.proofs.Common.{◌≡◌, ◌≤◌, length, map}
use Rattle.hop_machine.specs.actors.ReducerTurns.{Writer}
use Rattle.hop_machine.specs.play.Play.{Went, Pulling}
use Rattle.hop_machine.specs.settling.Settling.{pulls_left}
use Rattle.hop_settle.specs.Crews.{world_of, AreWell}
use Rattle.hop_settle.proofs.pulls.pull_all.Given as goal

-- the run went on to the pulls of this split
abbrev pub invariant-loop-split : goal.invariant-loop-split
invariant-loop-split g l = let E = g.E.Reach in let M = g.M.Actor in let k = g.M.Store.mapper in let f = g.D.Taker.reducer in record {
  within : l.split ≤ l.fn.splits;
  count : length l.reducers.items ≡ length l.fn.reducers.items;
  ends : (E.deeds l.reach).ends ≡ (E.deeds l.fn.reach).ends;
  same : map k l.mappers.items ≡ map k l.fn.mappers.items;
  well : AreWell M.failed M.fits (E.deeds l.reach).ends.board l.mappers.items;
  counts : map M.counts l.mappers.items ≡ map M.counts l.fn.mappers.items;
  went : (x : Writer) → Went E.exact (Pulling l.fn.p 0, world_of (map k l.fn.mappers.items) (map f l.fn.reducers.items) x (E.deeds l.fn.reach)) (Pulling l.fn.p l.split, world_of (map k l.mappers.items) (map f l.reducers.items) x (E.deeds l.reach));
}

abbrev pub decreases-loop-split : goal.decreases-loop-split
decreases-loop-split g l = pulls_left l.fn.p l.split (g.E.Reach.deeds l.reach)
