use Rattle.std.proofs.Common.{◌≡◌, false, subst}
use Rattle.std.specs.Prelude.{All}
use Rattle.hop_event.specs.History.{is_revoked}
use Rattle.hop_shelf.specs.Kept.{all_parts}
use Rattle.hop_shelf.specs.Names.{rules_of, pairs_of}
use Rattle.hop_shelf.specs.Sound.{ShelfValue}
use Rattle.hop_shelf.proofs.KnownLaws.{none_revoked}
use Rattle.hop_shelf.proofs.shelf.Shelf.known.Goals as goal

pub returns-clause-revoked : goal.returns-clause-revoked
returns-clause-revoked g c =
    subst (λ (v : ShelfValue). All (λ q. is_revoked q.split q.attempt v.journal.events ≡ false) (all_parts v.kept)) c.self.view_is
    (none_revoked (rules_of g.N.RunName.records g.N.RunName.script g.N.RunName.settings) c.self.inside.p g.N.RunName.settings.marks g.N.RunName.settings.tentative g.N.RunName.tells g.N.RunName.job.reduced (pairs_of g.N.RunName.job g.N.RunName.records g.N.RunName.settings c.self.inside.p) c.self.inside.journal c.self.inside.kept.items c.self.invariant)
