use Rattle.std.proofs.Common.{List, ap, ◌∙◌, subst}
use Rattle.std.proofs.lemmas.List.{take_all}
use Rattle.hop_fold.specs.Folding.{Folds}
use Rattle.hop_fold.proofs.FoldingLaws.{folds_none, red_folds}
use Rattle.hop_run.specs.Runs.{RunValue}
use Rattle.hop_cut.proofs.FoldedRuns.{pairs_of_runs, folds_run}
use Rattle.hop_cut.proofs.cut.body.Goals as goal

-- before the first run
pub loop-run-init : goal.loop-run-init
loop-run-init g c = folds_none (g.J.Job.meaning c.args.job.now).reduced c.in_ok-pairs.pairs c.in_ok-pairs.ensures

-- one more run
pub loop-run-preserved : goal.loop-run-preserved
loop-run-preserved g c =
    folds_run (g.J.Job.meaning c.args.job.now).reduced c.loop-run.pairs c.take_sheet.new.self c.flat.result.now c.args.runs.now c.loop-run.run-index c.run-item.result c.loop-run-test.true
    (c.flat.ensures.value ∙ ap (λ (r : RunValue). r.sheet) c.run-item.is) c.in_ok-take_sheet.ensures c.loop-run.invariant

pub returns : goal.returns
returns g c =
    let reduce = (g.J.Job.meaning c.args.job.now).reduced in
    let all = take_all c.loop-run.run-index c.args.runs.now c.loop-run-test.false in
    c.in_ok-text.ensures ∙ red_folds reduce c.loop-run.pairs (pairs_of_runs c.args.runs.now) (subst (λ (runs : List RunValue). Folds reduce c.loop-run.pairs (pairs_of_runs runs)) all c.loop-run.invariant)
