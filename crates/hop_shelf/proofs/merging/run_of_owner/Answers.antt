use Rattle.std.proofs.Common.{List, map, filter, sym, subst}
use Rattle.std.specs.Prelude.{All}
use Rattle.std.specs.List.{flat_map}
use Rattle.std.proofs.lemmas.List.Elements.{All-map, All-filter, recursion_from_All}
use Rattle.std.proofs.lemmas.List.Folds.{flat_map-map}
use Rattle.hop_base.specs.declared.part.Part.{Part}
use Rattle.hop_laws.specs.Stands.{StandsFor}
use Rattle.hop_laws.proofs.StandsLaws.{stands_through}
use Rattle.hop_run.specs.Runs.{RunValue}
use Rattle.hop_shelf.specs.declared.kept.Kept.{Kept}
use Rattle.hop_shelf.specs.Holds.{RunHolds}
use Rattle.hop_shelf.specs.Kept.{all_parts, is_owners, pairs_where}
use Rattle.hop_shelf.proofs.Together.{runs_together}
use Rattle.hop_shelf.proofs.merging.run_of_owner.Goals as goal

pub returns-clause-holds : goal.returns-clause-holds
returns-clause-holds g c = λ pairs_of valid each.
    let reduce = (g.J.Job.meaning c.args.job.now).reduced in
    let own : List Kept = filter (is_owners c.args.owner) c.args.kept.now in
    let runs : List RunValue = map (λ (k : Kept). k.run) own in
    let hold : All (RunHolds reduce pairs_of) runs = All-map (RunHolds reduce pairs_of) (λ (k : Kept). k.run) own (All-filter (is_owners c.args.owner) (λ (k : Kept). RunHolds reduce pairs_of k.run) c.args.kept.now each) in
    let together : StandsFor reduce (pairs_where (is_owners c.args.owner) c.args.kept.now) (flat_map pairs_of (all_parts own)) =
    subst (λ (qs : List Part). StandsFor reduce (pairs_where (is_owners c.args.owner) c.args.kept.now) (flat_map pairs_of qs)) (flat_map-map (λ (r : RunValue). r.parts) (λ (k : Kept). k.run) own)
    (runs_together reduce pairs_of valid runs (recursion_from_All (RunHolds reduce pairs_of) runs hold)) in
    let stands : StandsFor reduce c.in_ok-flat.flat (flat_map pairs_of (all_parts own)) =
    c.in_ok-flat.ensures (flat_map pairs_of (all_parts own)) (stands_through reduce c.in_ok-folded.folded (pairs_where (is_owners c.args.owner) c.args.kept.now) (flat_map pairs_of (all_parts own)) c.in_ok-folded.ensures.stands together) in
    subst (RunHolds reduce pairs_of) (sym c.of_flat-run.ensures)
    (record {
      valid = c.known.ensures.valid;
      stands = subst (λ (qs : List Part). StandsFor reduce c.in_ok-flat.flat (flat_map pairs_of qs)) (sym c.in_ok-parts.ensures) stands;
    })
