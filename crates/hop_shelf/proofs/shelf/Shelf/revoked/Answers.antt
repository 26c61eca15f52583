use Rattle.std.proofs.Common.{sym, subst}
use Rattle.hop_event.specs.Legal.{MayBeRevoked}
use Rattle.hop_shelf.specs.Names.{rules_of, pairs_of}
use Rattle.hop_shelf.specs.Sound.{ShelfValue, MayGrow}
use Rattle.hop_shelf.proofs.ShelfLaws.{revoked_sound}
use Rattle.hop_shelf.proofs.shelf.Shelf.revoked.Goals as goal

pub invariant_of-self : goal.invariant_of-self
invariant_of-self g c =
    let back = sym c.self.view_is in
    rw c.forget.ensures
    (revoked_sound (rules_of g.N.RunName.records g.N.RunName.script g.N.RunName.settings) c.self.inside.p g.N.RunName.settings.marks g.N.RunName.settings.tentative g.N.RunName.tells g.N.RunName.job.reduced (pairs_of g.N.RunName.job g.N.RunName.records g.N.RunName.settings c.self.inside.p) c.self.inside.journal c.self.inside.kept.items c.self.invariant (subst MayGrow back c.requires.grows).no_restart
    c.args.split c.args.attempt c.add.new.self c.add.ensures.adds
    (subst (λ (v : ShelfValue). MayBeRevoked (rules_of g.N.RunName.records g.N.RunName.script g.N.RunName.settings) (λ i. g.N.RunName.settings.attempts) v.journal.events c.args.split c.args.attempt) back c.requires.may))
