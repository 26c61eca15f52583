use Rattle.std.proofs.Common.{◌≡◌, ◌<◌, length, List, ap, ◌∙◌, subst}
use Rattle.std.specs.Prelude.{IfSome}
use Rattle.hop_shelf.specs.declared.kept.Kept.{Kept}
use Rattle.hop_shelf.specs.Kept.{kept_at}
use Rattle.hop_shelf.specs.Sound.{ShelfValue}
use Rattle.hop_shelf.proofs.MergingLaws.{fewer_runs}
use Rattle.hop_shelf.proofs.shelf.Shelf.merge_due.Goals as goal

pub loop-m-smaller : goal.loop-m-smaller
loop-m-smaller g c =
    let kept : List Kept = c.loop-m.self.kept in
    let are : c.deref.result.now ≡ kept = c.deref.ensures.value ∙ ap (λ (s : ShelfValue). s.kept) c.self-in-loop-m.view_is in
    let found = subst (λ x. IfSome x (λ at. (at.0 < at.1) × (at.1 < length c.deref.result.now) × ((kept_at c.deref.result.now at.0).owner ≡ (kept_at c.deref.result.now at.1).owner))) c.in-Some.is c.in_ok-m.ensures.found in
    let there = subst (λ (ks : List Kept). (c.in-Some.m < c.in-Some.n) × (c.in-Some.n < length ks) × ((kept_at ks c.in-Some.m).owner ≡ (kept_at ks c.in-Some.n).owner)) are found in
    fewer_runs kept c.merge_owner.new.self.kept c.in-Some.m c.in-Some.n there.0 there.1 there.2 c.in_ok-merge_owner.ensures.ok
