use Rattle.std.proofs.Common.{◌≡◌, ℕ, ◌<◌}
use Rattle.hop_machine.specs.home.Said.{Met}
use Rattle.hop_machine.specs.play.Play.{Learns}
use Rattle.hop_settle.proofs.meets.meet_all.Given as goal

-- the lanes of the mappers before w met
abbrev pub invariant-loop-w : goal.invariant-loop-w
invariant-loop-w g l = let E = g.E.Reach in record {
  learns : Learns E.exact (E.deeds l.fn.reach) (E.deeds l.reach);
  ends : (E.deeds l.reach).ends ≡ (E.deeds l.fn.reach).ends;
  met : (w p : ℕ) → w < l.w → p < l.fn.reducers → Met (E.deeds l.reach) w p;
}
