use Rattle.std.proofs.Common.{◌≡◌, ℕ, ◌<◌}
use Rattle.hop_machine.specs.home.Said.{Met}
use Rattle.hop_machine.specs.play.Play.{Learns}
use Rattle.hop_settle.proofs.meets.meet_lanes.Given as goal

-- the lanes to the reducers before p met
abbrev pub invariant-loop-p : goal.invariant-loop-p
invariant-loop-p g l = let E = g.E.Reach in record {
  learns : Learns E.exact (E.deeds l.fn.reach) (E.deeds l.reach);
  ends : (E.deeds l.reach).ends ≡ (E.deeds l.fn.reach).ends;
  met : (p : ℕ) → p < l.p → Met (E.deeds l.reach) l.fn.w p;
  others : (v p : ℕ) → Met (E.deeds l.fn.reach) v p → Met (E.deeds l.reach) v p;
}
