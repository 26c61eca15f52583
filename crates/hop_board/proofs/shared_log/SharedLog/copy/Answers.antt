use Rattle.std.proofs.Common.{arith}
use Rattle.hop_board.proofs.SharedLogLaws.{copies}
use Rattle.hop_board.proofs.shared_log.SharedLog.copy.Goals as goal

pub split_seat-seat-requires : goal.split_seat-seat-requires
split_seat-seat-requires g c = let l = c.self.inside in let i = c.self.invariant in (i.0, omega (arith, i.1), λ s h at. copies s.views l.seat.id l.seat.me.0 h at)
