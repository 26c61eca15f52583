use Rattle.std.proofs.Common.{length, ◌+◌, ◌/◌, ◌%◌, refl, sym, ap, ◌∙◌, subst, Option}
use Rattle.hop_lane.specs.PlainLanes.{Lane}
use Rattle.hop_crew.specs.PlainWorlds.{Mail}
use Rattle.hop_crew.specs.Unused.{IsUnusedLane, AreUnusedLanes}
use Rattle.hop_crew.proofs.Filling.{one_more, long}
use Rattle.hop_crew.proofs.making.message_lanes.Goals as goal

pub loop-i-preserved : goal.loop-i-preserved
loop-i-preserved g c =
    let board = c.args.seat.now.name in let R = c.args.reducers in let xs = c.loop-i.lanes.items in let x : Lane Mail = c.in_ok-lane.lane in let e = c.in_ok-lane.ensures in let was = c.loop-i.invariant in
    let items = c.in_ok-push.ensures.items in
    record {
      count = ap length items ∙ long xs x ∙ ap (λ n. n + 1) was.count;
      lanes = subst (AreUnusedLanes board R) (sym items) (one_more (λ i (o : Option (Lane Mail)). IsUnusedLane (record { mapper = i / R; reducer = i % R; board = board }) o) xs x was.lanes
          (record { lane = x; here = refl; key_is = e.key ∙ (λ i. record { mapper = sym was.count i / R; reducer = sym was.count i % R; board = board }); taken = e.taken; held = e.held; fulls = e.counts.0; nones = e.counts.1 }));
    }
