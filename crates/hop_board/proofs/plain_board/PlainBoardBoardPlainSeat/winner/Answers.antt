use Rattle.std.proofs.Common.{◌≡◌, sym, ap, ◌∙◌, subst, true}
use Rattle.std.proofs.lemmas.Option.{get_or_from_slice_get}
use Rattle.hop_machine.specs.step.Steps.{Steps, AskWinner}
use Rattle.hop_inner.specs.Setups.{setup_of}
use Rattle.hop_board.specs.PlainBoards.{BoardValue, board_deeds, words_of}
use Rattle.hop_board.proofs.BoardSteps.{winner_step}
use Rattle.hop_board.proofs.plain_board.PlainBoardBoardPlainSeat.winner.Goals as goal

pub returns-clause-step : goal.returns-clause-step
returns-clause-step g c =
    let b = c.self.inside in let i = c.self.invariant in let n = g.N.RunName in let setup = setup_of n.records n.script n.settings in let k = c.args.split in let o = c.index.result.now in
    let is : o ≡ (words_of b.calls.items).winner k = c.index.ensures ∙ get_or_from_slice_get b.winners.items k ((words_of b.calls.items).winner k) o (i.1.winners_are k c.requires.asks) in
    subst (λ (z : BoardValue). Steps true (AskWinner z.who k) o (board_deeds setup z) (board_deeds setup z)) c.self.view_is
    (winner_step setup b.calls.name b.calls.items i.1.rule b.who k o is)
