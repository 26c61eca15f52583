use Rattle.std.proofs.Common.{sym, subst, true}
use Rattle.hop_machine.specs.step.Steps.{Steps, Join}
use Rattle.hop_inner.specs.Setups.{setup_of}
use Rattle.hop_inner.specs.Boards.{KnowsVerdict}
use Rattle.hop_board.specs.declared.plain_board.Made.{Made}
use Rattle.hop_board.specs.SharedLogs.{LogValue}
use Rattle.hop_board.specs.PlainBoards.{BoardValue, board_deeds, words_of, verdicts_of}
use Rattle.hop_board.proofs.BoardSteps.{join_step}
use Rattle.hop_board.proofs.plain_board.PlainBoardBoardPlainSeat.join_seat.Goals as goal

pub returns-clause-step : goal.returns-clause-step
returns-clause-step g c p i a mine knows =
    let b = c.self.inside in let older = c.other.inside.calls.items in let n = g.N.RunName in let setup = setup_of n.records n.script n.settings in
    let known : KnowsVerdict (verdicts_of (words_of older)) i a = subst (λ (l : LogValue Made). KnowsVerdict (verdicts_of (words_of l.items)) i a) (sym c.other.view_is) knows in
    subst (λ (z : BoardValue). Steps true (Join p i a) tt (board_deeds setup z) (board_deeds setup (record { name = c.hear.new.self.name; who = b.who; calls = c.hear.new.self.items }))) c.self.view_is
    (subst (λ (l : LogValue Made). Steps true (Join p i a) tt (board_deeds setup (record { name = b.calls.name; who = b.who; calls = b.calls.items })) (board_deeds setup (record { name = l.name; who = b.who; calls = l.items }))) (sym c.hear.ensures.same)
    (join_step setup b.calls.name b.calls.items c.self.invariant.1.rule b.who p i a older c.hear.ensures.older known))
