use Rattle.std.proofs.Common.{◌≡◌, false, map, Some}
use Rattle.hop_machine.specs.step.Steps.{Runs}
use Rattle.hop_machine.specs.play.Play.{rows_of_split}
use Rattle.hop_settle.specs.CaughtUp.{MayCatch, pull_each}
use Rattle.hop_settle.specs.Crews.{AreWell}
use Rattle.hop_settle.proofs.catching.catch_split.Given as goal

-- what was kept of the attempts before this one was pulled, and no restart came
abbrev pub invariant-loop-attempt : goal.invariant-loop-attempt
invariant-loop-attempt g l = let E = g.E.Reach in let M = g.M.Actor in let f = g.M.Store.mapper in let h = g.D.Taker.reducer in record {
  may : MayCatch (map f l.mappers.items) l.fn.p (h l.reducer) (E.deeds l.reach);
  setup : (E.deeds l.reach).setup ≡ (E.deeds l.fn.reach).setup;
  same : map f l.mappers.items ≡ map f l.fn.mappers.items;
  well : AreWell M.failed M.fits (E.deeds l.reach).ends.board l.mappers.items;
  counts : map M.counts l.mappers.items ≡ map M.counts l.fn.mappers.items;
  runs : Runs E.exact (pull_each (rows_of_split (map f l.fn.mappers.items) l.fn.split 0 l.attempt) (h l.fn.reducer)) (E.deeds l.fn.reach) (h l.reducer, Some false) (E.deeds l.reach);
}
