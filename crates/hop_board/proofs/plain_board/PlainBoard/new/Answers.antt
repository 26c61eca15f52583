use Rattle.std.proofs.Common.{rules, refl, sym, ap, subst, ◌∙◌}
use Rattle.hop_inner.specs.Setups.{setup_of}
use Rattle.hop_board.specs.PlainBoards.{IsBoard}
use Rattle.hop_board.proofs.Starts.{starts}
use Rattle.hop_board.proofs.plain_board.PlainBoard.new.Goals as goal

pub invariant_of-result : goal.invariant_of-result
invariant_of-result g c =
    let n = g.N.RunName in let setup = setup_of n.records n.script n.settings in let drawn = c.in_ok-drawn.drawn.items in let winners = c.in_ok-winners.winners.items in let masks = c.in_ok-masks.masks.items in (
      c.requires.splits,
      subst (λ calls. IsBoard setup 0 drawn winners masks calls) (sym c.in_ok-calls.ensures)
          (starts setup c.args.splits drawn winners masks c.requires.splits c.requires.some c.requires.few c.requires.workers (c.in_ok-drawn.ensures.items_if_clones_equal (λ y e. e)) (c.in_ok-winners.ensures.items_if_clones_equal search rules) (c.in_ok-masks.ensures.items_if_clones_equal (λ y e. e))),
    )
