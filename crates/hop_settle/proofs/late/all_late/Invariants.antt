use Rattle.std.proofs.Common.{◌≡◌, length, map}
use Rattle.hop_settle.proofs.LateLaws.{late_first}
use Rattle.hop_settle.proofs.late.all_late.Given as goal

-- the reducers before p wait for their locks
abbrev pub invariant-loop-p : goal.invariant-loop-p
invariant-loop-p g l = let f = g.D.Taker.reducer in record {
  count : length l.reducers.items ≡ length l.fn.reducers.items;
  late : map f l.reducers.items ≡ late_first l.p (map f l.fn.reducers.items);
}
