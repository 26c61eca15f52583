use Rattle.std.proofs.Common.{◌≡◌, List, length, map}
use Rattle.hop_machine.specs.actors.MapperTurns.{Mapper}
use Rattle.hop_machine.specs.actors.ReducerTurns.{Writer}
use Rattle.hop_machine.specs.play.Play.{Went}
use Rattle.hop_machine.specs.settling.Settling.{Drained}
use Rattle.hop_settle.specs.Crews.{world_of}
use Rattle.hop_settle.specs.Drains.{Stage, drains_at}
use Rattle.hop_settle.proofs.drains.drain_all.Given as goal

-- the reducers before p are idle, and the run went on to p
abbrev pub invariant-loop-p : goal.invariant-loop-p
invariant-loop-p g l = let E = g.E.Reach in let f = g.D.Taker.reducer in record {
  count : length l.reducers.items ≡ length l.fn.reducers.items;
  ends : (E.deeds l.reach).ends ≡ (E.deeds l.fn.reach).ends;
  drained : Drained l.p (E.deeds l.fn.reach) (E.deeds l.reach);
  went : (s : Stage) (ms : List Mapper) (x : Writer) → Went E.exact (drains_at s 0, world_of ms (map f l.fn.reducers.items) x (E.deeds l.fn.reach)) (drains_at s l.p, world_of ms (map f l.reducers.items) x (E.deeds l.reach));
}
