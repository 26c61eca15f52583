use Rattle.std.proofs.Common.{length, ◌+◌, refl, sym, ap, ◌∙◌, subst, Option}
use Rattle.hop_cut.specs.declared.cut.Cut.{Cut}
use Rattle.hop_lane.specs.PlainLanes.{Lane}
use Rattle.hop_crew.specs.Unused.{IsUnusedLane, AreUnusedCutLanes}
use Rattle.hop_crew.proofs.Filling.{one_more, long}
use Rattle.hop_crew.proofs.making.cut_lanes.Goals as goal

pub loop-p-preserved : goal.loop-p-preserved
loop-p-preserved g c =
    let board = c.args.seat.now.name in let xs = c.loop-p.lanes.items in let x : Lane Cut = c.in_ok-lane.lane in let e = c.in_ok-lane.ensures in let was = c.loop-p.invariant in
    let items = c.in_ok-push.ensures.items in
    record {
      count = ap length items ∙ long xs x ∙ ap (λ n. n + 1) was.count;
      lanes = subst (AreUnusedCutLanes board) (sym items) (one_more (λ i (o : Option (Lane Cut)). IsUnusedLane (record { mapper = 0; reducer = i; board = board }) o) xs x was.lanes
          (record { lane = x; here = refl; key_is = e.key ∙ (λ i. record { mapper = 0; reducer = sym was.count i; board = board }); taken = e.taken; held = e.held; fulls = e.counts.0; nones = e.counts.1 }));
    }
