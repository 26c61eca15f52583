use Rattle.std.proofs.Common.{List, subst, arith}
use Rattle.std.specs.Prelude.{All}
use Rattle.hop_base.specs.declared.value.Pair.{Pair}
use Rattle.hop_base.specs.Order.{IsSheet}
use Rattle.hop_mapper.proofs.Reading.{one_more, all_of}
use Rattle.hop_mapper.proofs.spilling.all_known.Goals as goal

pub loop-sheet-preserved : goal.loop-sheet-preserved
loop-sheet-preserved c = one_more IsSheet c.as_slice-sheet-items.result.now c.loop-sheet.sheet-index c.sheet-item.result c.sheet-item.is c.loop-sheet-test.true c.loop-sheet.invariant c.known.ensures

pub returns : goal.returns
returns c =
    let low = c.loop-sheet-test.false in let high = c.loop-sheet.auto.sheet-index-end in
    subst (λ (xs : List (List Pair)). All IsSheet xs) c.as_slice-sheet-items.ensures
    (all_of IsSheet c.as_slice-sheet-items.result.now c.loop-sheet.sheet-index (omega arith) c.loop-sheet.invariant)
