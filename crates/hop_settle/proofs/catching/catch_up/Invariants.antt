use Rattle.std.proofs.Common.{◌≡◌, List, length, map}
use Rattle.hop_machine.specs.actors.ReducerTurns.{Writer}
use Rattle.hop_machine.specs.play.Play.{Order, CatchingUp, Went}
use Rattle.hop_settle.specs.Crews.{AreWell, world_of}
use Rattle.hop_settle.proofs.catching.catch_up.Given as goal

-- the reducers before p are caught up, or left for the next time
abbrev pub invariant-loop-p : goal.invariant-loop-p
invariant-loop-p g l = let E = g.E.Reach in let M = g.M.Actor in let f = g.M.Store.mapper in let h = g.D.Taker.reducer in record {
  count : length l.reducers.items ≡ length l.fn.reducers.items;
  ends : (E.deeds l.reach).ends ≡ (E.deeds l.fn.reach).ends;
  same : map f l.mappers.items ≡ map f l.fn.mappers.items;
  well : AreWell M.failed M.fits (E.deeds l.reach).ends.board l.mappers.items;
  counts : map M.counts l.mappers.items ≡ map M.counts l.fn.mappers.items;
  went : (list : List Order) (x : Writer) → Went E.exact (CatchingUp 0 list, world_of (map f l.fn.mappers.items) (map h l.fn.reducers.items) x (E.deeds l.fn.reach)) (CatchingUp l.p list, world_of (map f l.mappers.items) (map h l.reducers.items) x (E.deeds l.reach));
}
