use Rattle.std.proofs.Common.{◌≡◌, ◌<◌, ◌+◌, get_or, refl, sym, ap, ◌∙◌, subst, ◌∷◌, List, slice_set, true}
use Rattle.std.proofs.lemmas.Option.{get_or_from_slice_get}
use Rattle.hop_machine.specs.declared.words.Who.TheVariants as whose
use Rattle.hop_machine.specs.step.Setup.{splits_of}
use Rattle.hop_machine.specs.step.Steps.{Steps, Commit, verdict_of, with_winner}
use Rattle.hop_inner.specs.Setups.{setup_of}
use Rattle.hop_inner.specs.Boards.{MayAsMapper}
use Rattle.hop_board.specs.declared.plain_board.Made.{Made}
use Rattle.hop_board.specs.declared.plain_board.Call.TheVariants.{Committed}
use Rattle.hop_board.specs.SharedLogs.{LogValue}
use Rattle.hop_board.specs.PlainBoards.{BoardValue, IsBoard, board_deeds, words_of}
use Rattle.hop_board.proofs.Ends.{ask_of, inside_of, same_mapper}
use Rattle.hop_board.proofs.BoardSteps.{commit_step}
use Rattle.hop_board.proofs.BoardKeeps.{keeps_commit}
use Rattle.hop_board.proofs.plain_board.PlainBoardBoardPlainSeat.commit.Goals as goal

pub invariant_of-self : goal.invariant_of-self
invariant_of-self g c =
    let b = c.self.inside in let i = c.self.invariant in let n = g.N.RunName in let setup = setup_of n.records n.script n.settings in
    let v : BoardValue = record { name = b.calls.name; who = b.who; calls = b.calls.items } in
    let r : MayAsMapper v.who (λ w. Commit w c.args.split c.args.attempt) (board_deeds setup v) = subst (λ (z : BoardValue). MayAsMapper z.who (λ w. Commit w c.args.split c.args.attempt) (board_deeds setup z)) (sym c.self.view_is) c.requires.may in
    let ask = ask_of setup v (λ w. Commit w c.args.split c.args.attempt) r in let inside = inside_of setup v (λ w. Commit w c.args.split c.args.attempt) r refl in
    let k = c.args.split in let a = c.args.attempt in let o = c.verdict_of-verdict.result in let y = c.index-winner.result.now in
    let was : y ≡ (words_of b.calls.items).winner k = c.index-winner.ensures ∙ get_or_from_slice_get b.winners.items k ((words_of b.calls.items).winner k) y (i.1.winners_are k ask.0) in
    let is : o ≡ verdict_of ((words_of b.calls.items).winner k) a = c.verdict_of-verdict.ensures ∙ ap (λ z. verdict_of z a) was in (
      i.0,
      subst (λ (l : LogValue Made). IsBoard setup b.cursor b.drawn.items (slice_set b.winners.items k c.with_winner.result) b.masks.items l.items) (sym c.add.ensures)
          (subst (λ who. IsBoard setup b.cursor b.drawn.items (slice_set b.winners.items k c.with_winner.result) b.masks.items (record { who = who; call = Committed k a o } ∷ b.calls.items)) (sym r.mapper)
          (keeps_commit setup v.name b.cursor b.drawn.items b.winners.items b.masks.items b.calls.items i.1 r.number inside k a o c.with_winner.result is (c.with_winner.ensures ∙ ap (λ z. with_winner z a) was) ask)),
    )

pub returns-clause-step : goal.returns-clause-step
returns-clause-step g c w mine =
    let b = c.self.inside in let i = c.self.invariant in let n = g.N.RunName in let setup = setup_of n.records n.script n.settings in
    let v : BoardValue = record { name = b.calls.name; who = b.who; calls = b.calls.items } in
    let r : MayAsMapper v.who (λ w. Commit w c.args.split c.args.attempt) (board_deeds setup v) = subst (λ (z : BoardValue). MayAsMapper z.who (λ w. Commit w c.args.split c.args.attempt) (board_deeds setup z)) (sym c.self.view_is) c.requires.may in
    let ask = ask_of setup v (λ w. Commit w c.args.split c.args.attempt) r in let inside = inside_of setup v (λ w. Commit w c.args.split c.args.attempt) r refl in
    let k = c.args.split in let a = c.args.attempt in let o = c.verdict_of-verdict.result in let y = c.index-winner.result.now in
    let was : y ≡ (words_of b.calls.items).winner k = c.index-winner.ensures ∙ get_or_from_slice_get b.winners.items k ((words_of b.calls.items).winner k) y (i.1.winners_are k ask.0) in
    let is : o ≡ verdict_of ((words_of b.calls.items).winner k) a = c.verdict_of-verdict.ensures ∙ ap (λ z. verdict_of z a) was in
    subst (λ (z : BoardValue). z.who ≡ whose.Mapper w → Steps true (Commit w k a) o (board_deeds setup z) (board_deeds setup (record { name = c.add.new.self.name; who = b.who; calls = c.add.new.self.items }))) c.self.view_is
    (λ e. subst (λ (l : LogValue Made). Steps true (Commit w k a) o (board_deeds setup v) (board_deeds setup (record { name = l.name; who = b.who; calls = l.items }))) (sym c.add.ensures)
    (subst (λ u. Steps true (Commit u k a) o (board_deeds setup v) (board_deeds setup (record { name = v.name; who = b.who; calls = record { who = b.who; call = Committed k a o } ∷ b.calls.items }))) (same_mapper r.number w (sym r.mapper ∙ e))
    (subst (λ who. Steps true (Commit r.number k a) o (board_deeds setup (record { name = v.name; who = who; calls = b.calls.items })) (board_deeds setup (record { name = v.name; who = who; calls = record { who = who; call = Committed k a o } ∷ b.calls.items }))) (sym r.mapper)
    (commit_step setup v.name b.calls.items i.1.rule r.number k a o is inside ask)))) mine
