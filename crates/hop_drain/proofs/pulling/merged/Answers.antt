use Rattle.std.proofs.Common.{◌≡◌, List, ap, subst, ◌∙◌}
use Rattle.std.specs.Prelude.{IfOk}
use Rattle.std.specs.List.{flat_map}
use Rattle.std.proofs.lemmas.List.{take_all}
use Rattle.hop_base.specs.declared.value.Pair.{Pair}
use Rattle.hop_base.specs.Order.{pair_cmp}
use Rattle.hop_base.specs.Sorted.{ord}
use Rattle.hop_drain.proofs.Sheets.{sheet_added}
use Rattle.hop_drain.proofs.pulling.merged.Goals as goal

pub loop-sheet-preserved : goal.loop-sheet-preserved
loop-sheet-preserved c = sheet_added c.args.sheets.now c.loop-sheet.sheet-index _ c.loop-sheet.heads c.add.new.self c.sheet-item.result c.loop-sheet-test.true c.loop-sheet.invariant c.sheet-item.is c.in_ok-add.ensures

pub returns : goal.returns
returns c =
    subst (λ (ps : List Pair). IfOk c.merged.result (λ flat. flat ≡ ps))
    (c.loop-sheet.invariant ∙ ap (λ (xs : List (List Pair)). ord pair_cmp (flat_map (λ (s : List Pair). s) xs)) (take_all c.loop-sheet.sheet-index c.args.sheets.now c.loop-sheet-test.false))
    c.merged.ensures
