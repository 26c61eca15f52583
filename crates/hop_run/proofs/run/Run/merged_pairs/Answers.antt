use Rattle.std.proofs.Common.{◌≡◌, List, ap, subst, ◌∙◌}
use Rattle.std.specs.Prelude.{IfOk}
use Rattle.std.specs.List.{flat_map}
use Rattle.std.proofs.lemmas.List.{take_all}
use Rattle.hop_base.specs.declared.value.Pair.{Pair}
use Rattle.hop_base.specs.Order.{pair_cmp}
use Rattle.hop_base.specs.Sorted.{ord}
use Rattle.hop_run.specs.Runs.{RunValue}
use Rattle.hop_run.proofs.HeadLaws.{sheet_of, merged_run}
use Rattle.hop_run.proofs.run.Run.merged_pairs.Goals as goal

pub loop-run-preserved : goal.loop-run-preserved
loop-run-preserved c =
    merged_run c.args.runs.now c.loop-run.run-index c.run-item.result c.loop-run.heads c.add.new.self c.run.inside.flat c.loop-run-test.true c.loop-run.invariant
    (ap sheet_of c.run.view_is ∙ ap sheet_of c.run-item.is) c.in_ok-add.ensures

pub returns : goal.returns
returns c =
    subst (λ (ps : List Pair). IfOk c.merged.result (λ flat. flat ≡ ps))
    (c.loop-run.invariant ∙ ap (λ (rs : List RunValue). ord pair_cmp (flat_map sheet_of rs)) (take_all c.loop-run.run-index c.args.runs.now c.loop-run-test.false))
    c.merged.ensures
