use Rattle.std.proofs.Common.{sym, ap, ◌∙◌, [], ◌∷◌, ◌++◌, take}
use Rattle.std.proofs.lemmas.List.{map-append, take_more}
use Rattle.std.proofs.lemmas.List.Elements.{All-push}
use Rattle.hop_cut.specs.declared.cut.Cut.{Cut}
use Rattle.hop_shelf.specs.Cuts.{IsCut}
use Rattle.hop_shelf.specs.Names.{pairs_of}
use Rattle.hop_shelf.proofs.shelf.Shelf.cuts.Goals as goal

pub loop-mark-preserved : goal.loop-mark-preserved
loop-mark-preserved g c = rw c.in_ok-push.ensures.ok (record {
  marks =
      map-append (λ (c : Cut). c.mark) c.loop-mark.cuts (c.in_ok-cut.field-0 ∷ [])
      ∙ ap (λ ms. ms ++ c.in_ok-cut.field-0.mark ∷ []) c.loop-mark.invariant.marks
      ∙ ap (λ m. take c.loop-mark.mark-index c.args.marks.now ++ m ∷ []) c.in_ok-cut.ensures.mark
      ∙ sym (take_more c.args.marks.now c.loop-mark.mark-index 0 c.loop-mark-test.true);
  cuts = All-push (IsCut g.N.RunName.tells g.N.RunName.job.reduced (pairs_of g.N.RunName.job g.N.RunName.records g.N.RunName.settings c.args.self.now.p) c.args.self.now.journal) c.loop-mark.cuts c.in_ok-cut.field-0 c.loop-mark.invariant.cuts c.in_ok-cut.ensures.cut;
})
