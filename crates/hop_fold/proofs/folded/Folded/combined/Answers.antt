use Rattle.std.proofs.Common.{List, ap, subst, ◌∙◌, ◌++◌}
use Rattle.std.proofs.lemmas.List.Sorted.{IsPermutation-refl}
use Rattle.hop_base.specs.declared.value.Pair.{Pair}
use Rattle.hop_laws.specs.Stands.{combined_pairs, KeepsStanding}
use Rattle.hop_fold.proofs.FoldingLaws.{combined_in_order}
use Rattle.hop_fold.proofs.Standing.{combined_stands}
use Rattle.hop_fold.proofs.folded.Folded.combined.Goals as goal

pub finish-requires : goal.finish-requires
finish-requires g c =
    let meaning = g.J.Job.meaning c.args.job.now in
    combined_in_order meaning.combined c.self.inside.pairs c.new-builder.result c.combined_into.new.sink (g.met.J.Job.lawful c.args.job.now).combines_well c.in_ok-combined_into.ensures.valid c.new-builder.ensures c.in_ok-combined_into.ensures.given

pub returns : goal.returns
returns g c =
    let meaning = g.J.Job.meaning c.args.job.now in
    let laws = g.met.J.Job.lawful c.args.job.now in
    subst (λ (ps : List Pair). KeepsStanding meaning.reduced ps c.in_ok-flat.flat) c.self.view_is
    (combined_stands meaning.combined meaning.reduced c.self.inside.pairs c.self.inside.pairs c.in_ok-flat.flat laws.combines_well laws.reduces_alike (IsPermutation-refl c.self.inside.pairs) c.in_ok-combined_into.ensures.valid
    (c.in_ok-flat.ensures ∙ c.in_ok-combined_into.ensures.given ∙ ap (λ ps. ps ++ combined_pairs meaning.combined c.self.inside.pairs) c.new-builder.ensures))
