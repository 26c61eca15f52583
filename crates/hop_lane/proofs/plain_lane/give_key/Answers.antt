use Rattle.std.proofs.Common.{arith, refl}
use Rattle.atomic_table.specs.Table.{keeps}
use Rattle.hop_lane.proofs.plain_lane.give_key.Goals as goal

pub load-requires : goal.load-requires
load-requires g c =
    let n = c.args.notes.now in let v = n.seat.me.0 in let k = g.K.LaneKey.key in (
      n.own,
      omega (arith, n.one),
      λ s h l at f. (record { mapper = k.mapper; reducer = k.reducer; board = k.board; taken = v.taken }, keeps, tt, tt, (refl, refl, refl)),
    )
