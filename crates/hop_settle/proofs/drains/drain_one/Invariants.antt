use Rattle.std.proofs.Common.{◌≡◌, ◌+◌, true, List, length, map, cond}
use Rattle.hop_machine.specs.step.Steps.{Deeds, rules_of}
use Rattle.hop_machine.specs.actors.MapperTurns.{Mapper}
use Rattle.hop_machine.specs.actors.ReducerTurns.{Writer}
use Rattle.hop_machine.specs.play.Play.{Went}
use Rattle.hop_machine.specs.settling.Settling.{Drained, most_messages, drain_left}
use Rattle.hop_settle.specs.Crews.{world_of}
use Rattle.hop_settle.specs.Drains.{Stage, drains_at}
use Rattle.hop_settle.proofs.drains.drain_one.Given as goal

-- the run went to where reducer p has a turn more, or is idle
abbrev pub invariant-loop-idle : goal.invariant-loop-idle
invariant-loop-idle g l = let E = g.E.Reach in let f = g.D.Taker.reducer in record {
  count : length l.reducers.items ≡ length l.fn.reducers.items;
  setup : (E.deeds l.reach).setup ≡ (E.deeds l.fn.reach).setup;
  ends : (E.deeds l.reach).ends ≡ (E.deeds l.fn.reach).ends;
  drained : (a : Deeds) → Drained l.fn.p a (E.deeds l.fn.reach) → Drained l.fn.p a (E.deeds l.reach) × (l.idle ≡ true → Drained (l.fn.p + 1) a (E.deeds l.reach));
  went : (s : Stage) (ms : List Mapper) (x : Writer) → Went E.exact (drains_at s l.fn.p, world_of ms (map f l.fn.reducers.items) x (E.deeds l.fn.reach)) (cond l.idle (drains_at s (l.fn.p + 1)) (drains_at s l.fn.p), world_of ms (map f l.reducers.items) x (E.deeds l.reach));
}

abbrev pub decreases-loop-idle : goal.decreases-loop-idle
decreases-loop-idle g l = let d = g.E.Reach.deeds l.reach in cond l.idle 0 (drain_left (most_messages (rules_of (g.E.Reach.deeds l.fn.reach).setup)) l.fn.p d + 1)
