use Rattle.std.proofs.Common.{ap, sym, ◌∙◌}
use Rattle.std.specs.HashMap.{get}
use Rattle.std.specs.Map.{lookup}
use Rattle.std.proofs.lemmas.List.{get_or_read}
use Rattle.hop_shelf.specs.declared.kept.Kept.{Kept}
use Rattle.hop_shelf.specs.declared.kept.Owner.{Owner}
use Rattle.hop_shelf.specs.Kept.{no_kept}
use Rattle.hop_shelf.proofs.OwnerLaws.{owner_eq, seen_none, seen_more}
use Rattle.hop_shelf.proofs.work.pair_of_one_owner.Goals as goal

pub loop-n-init : goal.loop-n-init
loop-n-init c = seen_none c.args.kept.now (λ (o : Owner). get owner_eq c.new-seen.result o) (λ o. ap (lookup (owner_eq o)) c.new-seen.ensures.empty)

pub loop-n-preserved : goal.loop-n-preserved
loop-n-preserved c =
    let here = ap (λ (k : Kept). k.owner) (get_or_read c.args.kept.now c.loop-n.n c.index-kept-n.result c.loop-n-test.true c.index-kept-n.is no_kept) in
    seen_more c.args.kept.now (λ (o : Owner). get owner_eq c.loop-n.seen o) (λ (o : Owner). get owner_eq c.insert.new.self o) c.loop-n.n c.index-kept-n.result.owner c.loop-n.invariant here (sym c.in_ok-m.ensures.old ∙ c.in_default.is) c.in_ok-m.ensures.updates.0

pub returns-in-Some-clause-found : goal.returns-in-Some-clause-found
returns-in-Some-clause-found c =
    let here = ap (λ (k : Kept). k.owner) (get_or_read c.args.kept.now c.loop-n.n c.index-kept-n.result c.loop-n-test.true c.index-kept-n.is no_kept) in
    let place = c.loop-n.invariant.places c.index-kept-n.result.owner c.in-Some.m (sym c.in_ok-m.ensures.old ∙ c.in-Some.is) in
    (place.0, c.loop-n-test.true, place.1 ∙ here)
