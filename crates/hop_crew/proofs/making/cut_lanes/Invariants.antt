use Rattle.std.proofs.Common.{◌≡◌, length}
use Rattle.hop_crew.specs.Unused.{AreUnusedCutLanes}
use Rattle.hop_crew.proofs.making.cut_lanes.Given as goal

abbrev pub invariant-loop-p : goal.invariant-loop-p
invariant-loop-p g l = record {
  count : length l.lanes.items ≡ l.p;
  lanes : AreUnusedCutLanes l.fn.seat.name l.lanes.items;
}
