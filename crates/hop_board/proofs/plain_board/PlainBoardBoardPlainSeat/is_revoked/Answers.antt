use Rattle.std.proofs.Common.{◌≡◌, sym, ap, ◌∙◌, subst, true}
use Rattle.std.proofs.lemmas.Option.{get_or_from_slice_get}
use Rattle.hop_machine.specs.step.Steps.{Steps, AskRevoked, has_bit}
use Rattle.hop_inner.specs.Setups.{setup_of}
use Rattle.hop_board.specs.PlainBoards.{BoardValue, board_deeds, words_of}
use Rattle.hop_board.proofs.BoardSteps.{is_revoked_step}
use Rattle.hop_board.proofs.plain_board.PlainBoardBoardPlainSeat.is_revoked.Goals as goal

pub returns-clause-step : goal.returns-clause-step
returns-clause-step g c =
    let b = c.self.inside in let i = c.self.invariant in let n = g.N.RunName in let setup = setup_of n.records n.script n.settings in let k = c.args.split in let m = c.index.result.now in
    let was : m ≡ (words_of b.calls.items).mask k = c.index.ensures ∙ get_or_from_slice_get b.masks.items k ((words_of b.calls.items).mask k) m (i.1.masks_are k c.requires.asks) in
    subst (λ (z : BoardValue). Steps true (AskRevoked z.who k c.args.attempt) c.has_bit.result (board_deeds setup z) (board_deeds setup z)) c.self.view_is
    (is_revoked_step setup b.calls.name b.calls.items i.1.rule b.who k c.args.attempt c.has_bit.result (c.has_bit.ensures ∙ ap (λ z. has_bit z c.args.attempt) was))
