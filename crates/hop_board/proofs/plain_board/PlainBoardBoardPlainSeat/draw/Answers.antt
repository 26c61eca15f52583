use Rattle.std.proofs.Common.{◌≡◌, ◌<◌, ◌+◌, get_or, refl, sym, ap, ◌∙◌, subst, ◌∷◌, List, slice_set, true, arith}
use Rattle.std.proofs.lemmas.Option.{get_or_from_slice_get}
use Rattle.hop_machine.specs.declared.words.Who.TheVariants as whose
use Rattle.hop_machine.specs.step.Setup.{splits_of}
use Rattle.hop_machine.specs.step.Steps.{Steps, Draw}
use Rattle.hop_inner.specs.Setups.{setup_of}
use Rattle.hop_inner.specs.Boards.{MayAsMapper}
use Rattle.hop_board.specs.declared.plain_board.Made.{Made}
use Rattle.hop_board.specs.declared.plain_board.Call.TheVariants.{Drew}
use Rattle.hop_board.specs.SharedLogs.{LogValue}
use Rattle.hop_board.specs.PlainBoards.{BoardValue, IsBoard, board_deeds, words_of}
use Rattle.hop_board.proofs.Ends.{ask_of, inside_of, same_mapper}
use Rattle.hop_board.proofs.BoardSteps.{draw_step}
use Rattle.hop_board.proofs.BoardKeeps.{keeps_draw}
use Rattle.hop_board.proofs.Counts.{few_drawn}
use Rattle.hop_board.proofs.plain_board.PlainBoardBoardPlainSeat.draw.Goals as goal

pub overflow_add-number : goal.overflow_add-number
overflow_add-number g c =
    let b = c.self.inside in let i = c.self.invariant in let n = g.N.RunName in let setup = setup_of n.records n.script n.settings in
    let v : BoardValue = record { name = b.calls.name; who = b.who; calls = b.calls.items } in
    let r : MayAsMapper v.who (λ w. Draw w c.args.split) (board_deeds setup v) = subst (λ (z : BoardValue). MayAsMapper z.who (λ w. Draw w c.args.split) (board_deeds setup z)) (sym c.self.view_is) c.requires.may in
    let ask = ask_of setup v (λ w. Draw w c.args.split) r in let inside = inside_of setup v (λ w. Draw w c.args.split) r refl in
    let k = c.args.split in let o = c.index-number.result.now in
    let is : o ≡ (words_of b.calls.items).drawn k = c.index-number.ensures ∙ get_or_from_slice_get b.drawn.items k ((words_of b.calls.items).drawn k) o (i.1.drawn_are k ask.1) in
    let few = few_drawn setup.workers b.calls.items i.1.counted i.1.few_workers k in
    omega (arith, is, few)

pub invariant_of-self : goal.invariant_of-self
invariant_of-self g c =
    let b = c.self.inside in let i = c.self.invariant in let n = g.N.RunName in let setup = setup_of n.records n.script n.settings in
    let v : BoardValue = record { name = b.calls.name; who = b.who; calls = b.calls.items } in
    let r : MayAsMapper v.who (λ w. Draw w c.args.split) (board_deeds setup v) = subst (λ (z : BoardValue). MayAsMapper z.who (λ w. Draw w c.args.split) (board_deeds setup z)) (sym c.self.view_is) c.requires.may in
    let ask = ask_of setup v (λ w. Draw w c.args.split) r in let inside = inside_of setup v (λ w. Draw w c.args.split) r refl in
    let k = c.args.split in let o = c.index-number.result.now in
    let is : o ≡ (words_of b.calls.items).drawn k = c.index-number.ensures ∙ get_or_from_slice_get b.drawn.items k ((words_of b.calls.items).drawn k) o (i.1.drawn_are k ask.1) in (
      i.0,
      subst (λ (l : LogValue Made). IsBoard setup b.cursor (slice_set b.drawn.items k (o + 1)) b.winners.items b.masks.items l.items) (sym c.add.ensures)
          (subst (λ who. IsBoard setup b.cursor (slice_set b.drawn.items k (o + 1)) b.winners.items b.masks.items (record { who = who; call = Drew k o } ∷ b.calls.items)) (sym r.mapper)
          (keeps_draw setup v.name b.cursor b.drawn.items b.winners.items b.masks.items b.calls.items i.1 r.number inside k o is ask)),
    )

pub returns-clause-step : goal.returns-clause-step
returns-clause-step g c w mine =
    let b = c.self.inside in let i = c.self.invariant in let n = g.N.RunName in let setup = setup_of n.records n.script n.settings in
    let v : BoardValue = record { name = b.calls.name; who = b.who; calls = b.calls.items } in
    let r : MayAsMapper v.who (λ w. Draw w c.args.split) (board_deeds setup v) = subst (λ (z : BoardValue). MayAsMapper z.who (λ w. Draw w c.args.split) (board_deeds setup z)) (sym c.self.view_is) c.requires.may in
    let ask = ask_of setup v (λ w. Draw w c.args.split) r in let inside = inside_of setup v (λ w. Draw w c.args.split) r refl in
    let k = c.args.split in let o = c.index-number.result.now in
    let is : o ≡ (words_of b.calls.items).drawn k = c.index-number.ensures ∙ get_or_from_slice_get b.drawn.items k ((words_of b.calls.items).drawn k) o (i.1.drawn_are k ask.1) in
    subst (λ (z : BoardValue). z.who ≡ whose.Mapper w → Steps true (Draw w k) o (board_deeds setup z) (board_deeds setup (record { name = c.add.new.self.name; who = b.who; calls = c.add.new.self.items }))) c.self.view_is
    (λ e. subst (λ (l : LogValue Made). Steps true (Draw w k) o (board_deeds setup v) (board_deeds setup (record { name = l.name; who = b.who; calls = l.items }))) (sym c.add.ensures)
    (subst (λ u. Steps true (Draw u k) o (board_deeds setup v) (board_deeds setup (record { name = v.name; who = b.who; calls = record { who = b.who; call = Drew k o } ∷ b.calls.items }))) (same_mapper r.number w (sym r.mapper ∙ e))
    (subst (λ who. Steps true (Draw r.number k) o (board_deeds setup (record { name = v.name; who = who; calls = b.calls.items })) (board_deeds setup (record { name = v.name; who = who; calls = record { who = who; call = Drew k o } ∷ b.calls.items }))) (sym r.mapper)
    (draw_step setup v.name b.calls.items i.1.rule r.number k o is inside ask)))) mine
