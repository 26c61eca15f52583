use Rattle.std.proofs.Common.{◌≡◌, ℕ, ◌<◌}
use Rattle.hop_machine.specs.play.Play.{Learns}
use Rattle.hop_machine.specs.settling.Meeting.{CutMet}
use Rattle.hop_settle.proofs.meets.meet_cuts.Given as goal

-- the cut lanes of the reducers before p met
abbrev pub invariant-loop-p : goal.invariant-loop-p
invariant-loop-p g l = let E = g.E.Reach in record {
  learns : Learns E.exact (E.deeds l.fn.reach) (E.deeds l.reach);
  ends : (E.deeds l.reach).ends ≡ (E.deeds l.fn.reach).ends;
  met : (p : ℕ) → p < l.p → CutMet (E.deeds l.reach) p;
}
