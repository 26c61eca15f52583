use Rattle.std.proofs.Common.{◌≡◌, length}
use Rattle.hop_crew.specs.Unused.{AreUnusedLanes}
use Rattle.hop_crew.proofs.making.message_lanes.Given as goal

abbrev pub invariant-loop-i : goal.invariant-loop-i
invariant-loop-i g l = record {
  count : length l.lanes.items ≡ l.i;
  lanes : AreUnusedLanes l.fn.seat.name l.fn.reducers l.lanes.items;
}
