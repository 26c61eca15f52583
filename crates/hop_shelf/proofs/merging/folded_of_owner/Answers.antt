use Rattle.std.proofs.Common.{◌+◌, Bool, List, take, ap, sym, subst, ◌∙◌}
use Rattle.std.proofs.lemmas.List.{take_all}
use Rattle.hop_base.specs.declared.value.Pair.{Pair}
use Rattle.hop_fold.specs.Folding.{Folds}
use Rattle.hop_fold.proofs.FoldingLaws.{folds_none}
use Rattle.hop_shelf.specs.declared.kept.Kept.{Kept}
use Rattle.hop_shelf.specs.Kept.{is_owners, pairs_where}
use Rattle.hop_shelf.proofs.CoveringLaws.{folds_passed, folds_skipped}
use Rattle.hop_shelf.proofs.merging.folded_of_owner.Goals as goal
use Rattle.hop_shelf.proofs.merging.folded_of_owner.Goals.{then-is_owners+in_ok-take_sheet, else-is_owners}

pub loop-one-init : goal.loop-one-init
loop-one-init g c = folds_none (g.J.Job.meaning c.args.job.now).reduced c.in_ok-folded.folded c.in_ok-folded.ensures

pub loop-one-preserved : goal.loop-one-preserved
loop-one-preserved g c =
    let reduce = (g.J.Job.meaning c.args.job.now).reduced in
    let test : Kept → Bool = is_owners c.args.owner in
    let kept : List Kept = c.args.kept.now in
    let i = c.loop-one.one-index in
    let d : Kept = c.one-item.result in
    let there = ap test (sym c.one-item.is) ∙ sym c.is_owners.ensures in
    elim c.if-is_owners.branch [
      | then-is_owners+in_ok-take_sheet w ↦ subst (λ (ps : List Pair). Folds reduce ps (pairs_where test (take (i + 1) kept))) (sym w.folded-is)
          (folds_passed test reduce c.loop-one.folded w.take_sheet.new.self w.flat.result.now kept i d c.loop-one-test.true (there ∙ w.if-is_owners.true) (w.flat.ensures.value ∙ ap (λ (k : Kept). k.run.sheet) c.one-item.is) w.in_ok-take_sheet.ensures c.loop-one.invariant)
      | else-is_owners w ↦ subst (λ (ps : List Pair). Folds reduce ps (pairs_where test (take (i + 1) kept))) (sym w.folded-is)
          (folds_skipped test reduce c.loop-one.folded kept i d c.loop-one-test.true (there ∙ w.if-is_owners.false) c.loop-one.invariant)
    ]

pub returns : goal.returns
returns g c = subst (λ (ks : List Kept). Folds (g.J.Job.meaning c.args.job.now).reduced c.loop-one.folded (pairs_where (is_owners c.args.owner) ks)) (take_all c.loop-one.one-index c.args.kept.now c.loop-one-test.false) c.loop-one.invariant
