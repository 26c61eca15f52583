use Rattle.std.proofs.Common.{refl, subst}
use Rattle.hop_machine.specs.step.Steps.{Steps, AskRevoked}
use Rattle.hop_inner.proofs.steps.is_revoked_on.Goals as goal

pub returns : goal.returns
returns g c = g.met.E.Reach.board_step c.args.reach.now (c.args.who) c.board.result.now c.is_revoked.new.self (AskRevoked c.args.who c.args.split c.args.attempt) c.is_revoked.result c.board.ensures.end refl (subst (λ who. Steps g.E.Board.Board.exact (AskRevoked who c.args.split c.args.attempt) c.is_revoked.result (g.E.Board.Board.deeds c.board.result.now) (g.E.Board.Board.deeds c.is_revoked.new.self)) c.board.ensures.whose c.is_revoked.ensures.step)
