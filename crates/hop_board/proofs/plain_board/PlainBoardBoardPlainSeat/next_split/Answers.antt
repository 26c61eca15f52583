use Rattle.std.proofs.Common.{◌≡◌, ◌<◌, ◌+◌, get_or, refl, sym, ap, ◌∙◌, subst, ◌∷◌, List, slice_set, true}
use Rattle.std.proofs.lemmas.Option.{get_or_from_slice_get}
use Rattle.hop_machine.specs.declared.words.Who.TheVariants as whose
use Rattle.hop_machine.specs.step.Setup.{splits_of}
use Rattle.hop_machine.specs.step.Steps.{Steps, NextSplit, next_of}
use Rattle.hop_inner.specs.Setups.{setup_of}
use Rattle.hop_inner.specs.Boards.{MayAsMapper}
use Rattle.hop_board.specs.declared.plain_board.Made.{Made}
use Rattle.hop_board.specs.declared.plain_board.Call.TheVariants.{Gave}
use Rattle.hop_board.specs.SharedLogs.{LogValue}
use Rattle.hop_board.specs.PlainBoards.{BoardValue, IsBoard, board_deeds, words_of}
use Rattle.hop_board.proofs.Ends.{ask_of, inside_of, same_mapper}
use Rattle.hop_board.proofs.BoardSteps.{next_step}
use Rattle.hop_board.proofs.BoardKeeps.{keeps_next}
use Rattle.hop_board.proofs.plain_board.PlainBoardBoardPlainSeat.next_split.Goals as goal

pub invariant_of-self : goal.invariant_of-self
invariant_of-self g c =
    let b = c.self.inside in let i = c.self.invariant in let n = g.N.RunName in let setup = setup_of n.records n.script n.settings in
    let v : BoardValue = record { name = b.calls.name; who = b.who; calls = b.calls.items } in
    let r : MayAsMapper v.who NextSplit (board_deeds setup v) = subst (λ (z : BoardValue). MayAsMapper z.who NextSplit (board_deeds setup z)) (sym c.self.view_is) c.requires.may in
    let ask = ask_of setup v NextSplit r in let inside = inside_of setup v NextSplit r refl in
    let o = c.next_of-found.result in
    let is : o ≡ next_of (splits_of setup) b.cursor = c.next_of-found.ensures ∙ ap (λ k. next_of k b.cursor) i.0 in
    let far = c.advanced-self-inside.ensures in (
      i.0,
      subst (λ (l : LogValue Made). IsBoard setup c.advanced-self-inside.result b.drawn.items b.winners.items b.masks.items l.items) (sym c.add.ensures)
          (subst (λ who. IsBoard setup c.advanced-self-inside.result b.drawn.items b.winners.items b.masks.items (record { who = who; call = Gave o } ∷ b.calls.items)) (sym r.mapper)
          (subst (λ far. IsBoard setup far b.drawn.items b.winners.items b.masks.items (record { who = whose.Mapper r.number; call = Gave o } ∷ b.calls.items)) (sym far) (keeps_next setup v.name b.cursor b.drawn.items b.winners.items b.masks.items b.calls.items i.1 r.number inside o is ask))),
    )

pub returns-clause-step : goal.returns-clause-step
returns-clause-step g c w mine =
    let b = c.self.inside in let i = c.self.invariant in let n = g.N.RunName in let setup = setup_of n.records n.script n.settings in
    let v : BoardValue = record { name = b.calls.name; who = b.who; calls = b.calls.items } in
    let r : MayAsMapper v.who NextSplit (board_deeds setup v) = subst (λ (z : BoardValue). MayAsMapper z.who NextSplit (board_deeds setup z)) (sym c.self.view_is) c.requires.may in
    let ask = ask_of setup v NextSplit r in let inside = inside_of setup v NextSplit r refl in
    let o = c.next_of-found.result in
    let is : o ≡ next_of (splits_of setup) b.cursor = c.next_of-found.ensures ∙ ap (λ k. next_of k b.cursor) i.0 in
    let far = c.advanced-self-inside.ensures in
    subst (λ (z : BoardValue). z.who ≡ whose.Mapper w → Steps true (NextSplit w) o (board_deeds setup z) (board_deeds setup (record { name = c.add.new.self.name; who = b.who; calls = c.add.new.self.items }))) c.self.view_is
    (λ e. subst (λ (l : LogValue Made). Steps true (NextSplit w) o (board_deeds setup v) (board_deeds setup (record { name = l.name; who = b.who; calls = l.items }))) (sym c.add.ensures)
    (subst (λ u. Steps true (NextSplit u) o (board_deeds setup v) (board_deeds setup (record { name = v.name; who = b.who; calls = record { who = b.who; call = Gave o } ∷ b.calls.items }))) (same_mapper r.number w (sym r.mapper ∙ e))
    (subst (λ who. Steps true (NextSplit r.number) o (board_deeds setup (record { name = v.name; who = who; calls = b.calls.items })) (board_deeds setup (record { name = v.name; who = who; calls = record { who = who; call = Gave o } ∷ b.calls.items }))) (sym r.mapper)
    (next_step setup v.name b.calls.items i.1.rule r.number o (is ∙ ap (next_of (splits_of setup)) (sym i.1.cursor_is)) inside ask)))) mine
