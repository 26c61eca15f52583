use Rattle.std.proofs.Common.{refl, subst}
use Rattle.hop_machine.specs.step.Steps.{Steps, AskWinner}
use Rattle.hop_inner.proofs.steps.winner_on.Goals as goal

pub returns : goal.returns
returns g c = g.met.E.Reach.board_step c.args.reach.now (c.args.who) c.board.result.now c.winner.new.self (AskWinner c.args.who c.args.split) c.winner.result c.board.ensures.end refl (subst (λ who. Steps g.E.Board.Board.exact (AskWinner who c.args.split) c.winner.result (g.E.Board.Board.deeds c.board.result.now) (g.E.Board.Board.deeds c.winner.new.self)) c.board.ensures.whose c.winner.ensures.step)
