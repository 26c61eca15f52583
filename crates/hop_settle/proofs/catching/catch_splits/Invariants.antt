use Rattle.std.proofs.Common.{◌≡◌, false, map, Some}
use Rattle.hop_machine.specs.step.Steps.{Runs}
use Rattle.hop_machine.specs.play.Play.{kept_rows}
use Rattle.hop_settle.specs.CaughtUp.{MayCatch, pull_each}
use Rattle.hop_settle.specs.Crews.{AreWell}
use Rattle.hop_settle.proofs.catching.catch_splits.Given as goal

-- what was kept of the splits before this one was pulled, and no restart came
abbrev pub invariant-loop-split : goal.invariant-loop-split
invariant-loop-split g l = let E = g.E.Reach in let M = g.M.Actor in let f = g.M.Store.mapper in let h = g.D.Taker.reducer in record {
  may : MayCatch (map f l.mappers.items) l.fn.p (h l.reducer) (E.deeds l.reach);
  setup : (E.deeds l.reach).setup ≡ (E.deeds l.fn.reach).setup;
  same : map f l.mappers.items ≡ map f l.fn.mappers.items;
  well : AreWell M.failed M.fits (E.deeds l.reach).ends.board l.mappers.items;
  counts : map M.counts l.mappers.items ≡ map M.counts l.fn.mappers.items;
  runs : Runs E.exact (pull_each (kept_rows (map f l.fn.mappers.items) (E.deeds l.fn.reach).setup.attempts 0 l.split) (h l.fn.reducer)) (E.deeds l.fn.reach) (h l.reducer, Some false) (E.deeds l.reach);
}
