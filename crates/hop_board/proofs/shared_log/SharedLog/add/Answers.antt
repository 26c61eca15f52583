use Rattle.std.proofs.Common.{arith, refl, ◌∷◌}
use Rattle.atomic_table.specs.Table.{keeps}
use Rattle.hop_board.specs.SharedLogs.{known}
use Rattle.hop_board.proofs.SharedLogLaws.{adds}
use Rattle.hop_board.proofs.shared_log.SharedLog.add.Goals as goal

pub compare_exchange_with-requires : goal.compare_exchange_with-requires
compare_exchange_with-requires g c =
    let l = c.self.inside in let i = c.self.invariant in let v = l.seat.me.0 in let x = c.args.x.now in (
      i.0,
      omega (arith, i.1),
      λ s h n at f. (known v.writes (x ∷ v.items) v.heard, keeps, tt, adds s.views l.seat.id v x i.2 h at, (refl, refl)),
    )
