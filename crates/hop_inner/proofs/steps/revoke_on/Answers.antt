use Rattle.std.proofs.Common.{refl}
use Rattle.hop_machine.specs.declared.words.Who.TheVariants as whose
use Rattle.hop_machine.specs.step.Steps.{Revoke}
use Rattle.hop_inner.proofs.steps.revoke_on.Goals as goal

pub returns : goal.returns
returns g c = g.met.E.Reach.board_step c.args.reach.now (whose.Mapper c.args.w) c.board.result.now c.revoke.new.self (Revoke c.args.w c.args.split c.args.attempt) c.revoke.result c.board.ensures.end refl (c.revoke.ensures.step c.args.w c.board.ensures.whose)
