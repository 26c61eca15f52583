use Rattle.std.proofs.Common.{◌≡◌, List, length, map}
use Rattle.hop_machine.specs.actors.MapperTurns.{Mapper}
use Rattle.hop_machine.specs.actors.ReducerTurns.{Writer}
use Rattle.hop_machine.specs.play.Play.{Order, Opening, Went}
use Rattle.hop_settle.specs.Crews.{world_of}
use Rattle.hop_settle.proofs.opening.open.Given as goal

-- the cuts of the reducers before p are sent
abbrev pub invariant-loop-p : goal.invariant-loop-p
invariant-loop-p g l = let E = g.E.Reach in let h = g.D.Taker.reducer in record {
  count : length l.reducers.items ≡ length l.fn.reducers.items;
  ends : (E.deeds l.reach).ends ≡ (E.deeds l.fn.reach).ends;
  went : (list : List Order) (ms : List Mapper) (x : Writer) → Went E.exact (Opening 0 list, world_of ms (map h l.fn.reducers.items) x (E.deeds l.fn.reach)) (Opening l.p list, world_of ms (map h l.reducers.items) x (E.deeds l.reach));
}
