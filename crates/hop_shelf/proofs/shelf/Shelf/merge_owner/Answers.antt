use Rattle.std.proofs.Common.{◌≡◌, ◌<◌, List, length, filter, sym, ap, ◌∙◌, subst}
use Rattle.std.specs.Prelude.{All, IsTrue}
use Rattle.std.proofs.lemmas.List.{get_or_read}
use Rattle.hop_shelf.specs.declared.kept.Kept.{Kept}
use Rattle.hop_shelf.specs.Holds.{RunHolds}
use Rattle.hop_shelf.specs.Names.{rules_of, pairs_of}
use Rattle.hop_shelf.specs.Kept.{all_parts, is_owners, kept_at, no_kept}
use Rattle.hop_shelf.specs.Sound.{IsSound, ShelfValue}
use Rattle.hop_shelf.proofs.MergingLaws.{one_sound, owner_put}
use Rattle.hop_shelf.proofs.shelf.Shelf.merge_owner.Goals as goal

pub invariant_of-self-2 : goal.invariant_of-self-2
invariant_of-self-2 g c =
    let p = c.self.inside.p in
    let reduce = g.N.RunName.job.reduced in
    let pairs = pairs_of g.N.RunName.job g.N.RunName.records g.N.RunName.settings p in
    let kept : List Kept = c.self.inside.kept.items in
    let m = c.args.m in
    let run = c.in_ok-run.run' in
    let there = subst (λ (v : ShelfValue). m < length v.kept) (sym c.self.view_is) c.requires.place in
    let same = c.reserve.ensures.items in
    let there_now = subst (λ (ks : List Kept). m < length ks) (sym same) there in
    let first = get_or_read c.reserve.new.self.items m c.index.result.now there_now c.index.ensures no_kept ∙ ap (λ (ks : List Kept). kept_at ks m) same in
    let second = get_or_read c.reserve.new.self.items m c.index-2.result.now there_now c.index-2.ensures no_kept ∙ ap (λ (ks : List Kept). kept_at ks m) same in
    let are : c.deref.result.now ≡ kept = c.deref.ensures.value ∙ same in
    let joined = c.in_ok-run.ensures.parts ∙ (λ i. all_parts (filter (is_owners (second i).owner) (are i))) in
    let holds = λ (t : IsTrue g.N.RunName.tells). subst (λ job. RunHolds job.reduced pairs run) c.requires.job
    (c.in_ok-run.ensures.holds pairs c.self.invariant.by_records.ranges.valid
    (subst (λ job. All (λ (k : Kept). RunHolds job.reduced pairs k.run) c.deref.result.now) (sym c.requires.job) (subst (All (λ (k : Kept). RunHolds reduce pairs k.run)) (sym are) (c.self.invariant.stand t)))) in
    subst (IsSound (rules_of g.N.RunName.records g.N.RunName.script g.N.RunName.settings) p g.N.RunName.settings.marks g.N.RunName.settings.tentative g.N.RunName.tells reduce pairs c.self.inside.journal)
    (sym (c.put_for_owner.ensures ∙ owner_put kept c.reserve.new.self.items m c.index.result.now c.index-2.result.now run same first second))
    (one_sound (rules_of g.N.RunName.records g.N.RunName.script g.N.RunName.settings) p g.N.RunName.settings.marks g.N.RunName.settings.tentative g.N.RunName.tells reduce pairs c.self.inside.journal kept c.self.invariant m run there joined holds)
