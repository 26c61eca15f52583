use Rattle.std.proofs.Common.{map, All}
use Rattle.hop_machine.specs.step.Steps.{Runs, Deeds}
use Rattle.hop_machine.specs.home.Conditions.{Safe}
use Rattle.hop_inner.specs.Setups.{parts}
use Rattle.hop_inner.specs.Messages.{said_cut, CutFitsAt}
use Rattle.hop_drain.specs.Drains.{each_said}
use Rattle.hop_drain.proofs.drain.Drain.send_all.Given as goal

-- the cuts that are left fit and may be sent, and sending them completes the sending
abbrev pub invariant-loop-cut : goal.invariant-loop-cut
invariant-loop-cut g l = let E = g.E in let e = E.Reach.exact in let p = l.fn.self.number in let left = l.cut-iterator.rest.items in record {
  fits : All (CutFitsAt g.N.RunName.job g.N.RunName.records g.N.RunName.settings g.N.RunName.tells p) left;
  safe : Safe parts e (each_said p (map said_cut left)) (E.Reach.deeds l.reach);
  completes : (d : Deeds) → Runs e (each_said p (map said_cut left)) (E.Reach.deeds l.reach) tt d → Runs e (each_said p (map said_cut l.fn.cuts)) (E.Reach.deeds l.fn.reach) tt d;
}
