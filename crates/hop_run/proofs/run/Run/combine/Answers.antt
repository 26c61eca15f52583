use Rattle.std.proofs.Common.{◌≡◌, List, ap, sym, subst, ◌∙◌}
use Rattle.std.specs.List.{flat_map}
use Rattle.std.specs.List.Sorted.{IsPermutation}
use Rattle.std.proofs.lemmas.List.Sorted.{IsPermutation-refl}
use Rattle.hop_base.specs.declared.value.Pair.{Pair}
use Rattle.hop_laws.specs.Stands.{StandsFor, combined_pairs}
use Rattle.hop_laws.proofs.StandsLaws.{stands_combined}
use Rattle.hop_run.proofs.run.Run.combine.Goals as goal

pub returns-clause-stands : goal.returns-clause-stands
returns-clause-stands g c = λ pairs_of stands.
    let meaning = g.J.Job.meaning c.args.job.now in
    let laws = g.met.J.Job.lawful c.args.job.now in
    let parts : c.in_ok-parts.parts.items ≡ c.args.a.now.parts = c.in_ok-parts.ensures.items ∙ c.deref.ensures.value ∙ ap (λ run. run.parts) c.a.view_is in
    let before : StandsFor meaning.reduced c.a.inside.flat (flat_map pairs_of c.args.a.now.parts) = subst (λ sheet. StandsFor meaning.reduced sheet (flat_map pairs_of c.args.a.now.parts)) (sym (ap (λ run. run.sheet) c.a.view_is)) stands in
    let fewer : List Pair = combined_pairs meaning.combined c.a.inside.flat in
    subst (λ ps. StandsFor meaning.reduced c.in_ok-flat.flat (flat_map pairs_of ps)) (sym parts)
    (stands_combined meaning.combined meaning.reduced c.a.inside.flat c.in_ok-flat.flat (flat_map pairs_of c.args.a.now.parts) laws.combines_well laws.reduces_alike c.known.ensures.valid
    (subst (λ (ps : List Pair). IsPermutation fewer ps) (sym c.in_ok-flat.ensures) (IsPermutation-refl fewer)) before)
