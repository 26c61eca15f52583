use Rattle.std.proofs.Common.{refl}
use Rattle.hop_machine.specs.declared.words.Who.TheVariants as whose
use Rattle.hop_machine.specs.step.Steps.{Join}
use Rattle.hop_inner.proofs.steps.join_on.Goals as goal

pub returns : goal.returns
returns g c = g.met.E.Reach.board_step c.args.reach.now (whose.Reducer c.args.p) c.board.result.now c.join_seat.new.self (Join c.args.p c.args.split c.args.attempt) tt c.board.ensures.end refl (c.join_seat.ensures.step c.args.p c.args.split c.args.attempt c.board.ensures.whose c.requires.known)
