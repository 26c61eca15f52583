use Rattle.std.proofs.Common.{◌≡◌, sym, subst, refl}
use Rattle.std.proofs.lemmas.Bool.{false≢true}
use Rattle.std.specs.Prelude.{IsTrue}
use Rattle.hop_shelf.specs.Holds.{RunHolds}
use Rattle.hop_event.specs.declared.event.Via.TheVariants.{Pull}
use Rattle.hop_event.specs.Legal.{GoesOn}
use Rattle.hop_shelf.specs.Names.{rules_of, pairs_of}
use Rattle.hop_shelf.specs.Sound.{ShelfValue, MayGrow}
use Rattle.hop_shelf.proofs.ShelfLaws.{arrived_sound, ignored_sound}
use Rattle.hop_shelf.proofs.shelf.Shelf.arrive.Goals as goal

pub invariant_of-self : goal.invariant_of-self
invariant_of-self g c =
    let back = sym c.self.view_is in
    let grows = subst MayGrow back c.requires.grows in
    arrived_sound (rules_of g.N.RunName.records g.N.RunName.script g.N.RunName.settings) c.self.inside.p g.N.RunName.settings.marks g.N.RunName.settings.tentative g.N.RunName.tells g.N.RunName.job.reduced (pairs_of g.N.RunName.job g.N.RunName.records g.N.RunName.settings c.self.inside.p) c.self.inside.journal c.self.inside.kept.items c.self.invariant grows.no_restart
    c.args.parcel.part c.args.via c.add.new.self c.args.parcel.run c.len-number.result c.owner_of-owner.result c.push_reserved.new.self.items c.add.ensures.adds
    c.requires.range
    c.requires.worker
    (c.if-goes_on.ensures.0 refl) c.requires.parts
    (subst (λ (v : ShelfValue). IsTrue g.N.RunName.tells → RunHolds g.N.RunName.job.reduced (pairs_of g.N.RunName.job g.N.RunName.records g.N.RunName.settings v.p) c.args.parcel.run) back c.requires.stands)
    c.len-number.ensures c.owner_of-owner.ensures c.push_reserved.ensures.items

pub invariant_of-self-else-goes_on : goal.invariant_of-self-else-goes_on
invariant_of-self-else-goes_on g c =
    let back = sym c.self.view_is in
    let grows = subst MayGrow back c.requires.grows in
    ignored_sound (rules_of g.N.RunName.records g.N.RunName.script g.N.RunName.settings) c.self.inside.p g.N.RunName.settings.marks g.N.RunName.settings.tentative g.N.RunName.tells g.N.RunName.job.reduced (pairs_of g.N.RunName.job g.N.RunName.records g.N.RunName.settings c.self.inside.p) c.self.inside.journal c.self.inside.kept.items c.self.invariant grows.no_restart
    c.args.parcel.part c.args.via c.upto-have.result c.add-else-goes_on.new.self c.add-else-goes_on.ensures.adds
    c.requires.range
    c.requires.worker
    (λ goes. false≢true (c.if-goes_on.ensures.1 goes))
    (subst (λ (v : ShelfValue). c.args.via ≡ Pull → GoesOn v.journal.events c.args.parcel.part) back c.requires.pulled)
    c.upto-have.ensures
