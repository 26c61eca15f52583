use Rattle.std.proofs.Common.{refl}
use Rattle.hop_machine.specs.declared.words.Who.TheVariants as whose
use Rattle.hop_machine.specs.step.Steps.{NextSplit}
use Rattle.hop_inner.proofs.steps.next_split_on.Goals as goal

pub returns : goal.returns
returns g c = g.met.E.Reach.board_step c.args.reach.now (whose.Mapper c.args.w) c.board.result.now c.next_split.new.self (NextSplit c.args.w) c.next_split.result c.board.ensures.end refl (c.next_split.ensures.step c.args.w c.board.ensures.whose)
