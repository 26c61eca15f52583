use Rattle.std.proofs.Common.{subst}
use Rattle.hop_machine.specs.declared.words.Who.TheVariants as whose
use Rattle.hop_machine.specs.step.Steps.{rules_of}
use Rattle.hop_machine.specs.board.Board.{BoardRule}
use Rattle.hop_inner.specs.Setups.{setup_of}
use Rattle.hop_board.specs.PlainBoards.{BoardValue, words_of, seats_of}
use Rattle.hop_board.proofs.plain_board.PlainBoard.keeps_its_rule.Goals as goal

pub returns : goal.returns
returns g c =
    let n = g.N.RunName in
    subst (λ (z : BoardValue). BoardRule (rules_of (setup_of n.records n.script n.settings)) (words_of z.calls) (λ w. seats_of z.calls (whose.Mapper w))) c.self.view_is c.self.invariant.1.rule
