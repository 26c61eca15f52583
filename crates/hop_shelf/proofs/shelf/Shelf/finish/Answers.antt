use Rattle.std.proofs.Common.{sym, subst, arith}
use Rattle.std.specs.Prelude.{slice_index}
use Rattle.hop_event.specs.Legal.{IsFinished, NoFinish}
use Rattle.hop_shelf.specs.Names.{rules_of, pairs_of}
use Rattle.hop_shelf.specs.Sound.{ShelfValue, MayGrow}
use Rattle.hop_shelf.specs.Finish.{NamesBelow}
use Rattle.hop_shelf.proofs.ShelfLaws.{winner_small, finished_sound, finished_whole, done_finished}
use Rattle.hop_shelf.proofs.shelf.Shelf.finish.Goals as goal

pub first_not_done-requires-clause-winners : goal.first_not_done-requires-clause-winners
first_not_done-requires-clause-winners g c = λ i a e. let l = winner_small (rules_of g.N.RunName.records g.N.RunName.script g.N.RunName.settings) c.self.inside.p c.self.inside.journal.events i a c.self.invariant.legal e in omega (arith, l, c.self.invariant.limit)

pub invariant_of-self : goal.invariant_of-self
invariant_of-self g c =
    let grows = subst MayGrow (sym c.self.view_is) c.requires.grows in
    finished_sound (rules_of g.N.RunName.records g.N.RunName.script g.N.RunName.settings) c.self.inside.p g.N.RunName.settings.marks g.N.RunName.settings.tentative g.N.RunName.tells g.N.RunName.job.reduced (pairs_of g.N.RunName.job g.N.RunName.records g.N.RunName.settings c.self.inside.p) c.self.inside.journal c.self.inside.kept.items c.self.invariant
    grows.no_restart c.add.new.self c.add.ensures.adds

pub returns-in-None-clause-done : goal.returns-in-None-clause-done
returns-in-None-clause-done g c = done_finished c.self.inside.journal c.add.new.self c.args.begun.now c.add.ensures.adds c.in-None.ensures.none

pub returns-in-None-clause-won : goal.returns-in-None-clause-won
returns-in-None-clause-won g c = λ i l. (done_finished c.self.inside.journal c.add.new.self c.args.begun.now c.add.ensures.adds c.in-None.ensures.none i l).won

pub returns-in-None-clause-finished : goal.returns-in-None-clause-finished
returns-in-None-clause-finished g c = λ first.
    let back = sym c.self.view_is in
    let grows = subst MayGrow back c.requires.grows in
    subst (λ (v : ShelfValue). IsFinished (rules_of g.N.RunName.records g.N.RunName.script g.N.RunName.settings) v.p c.args.begun.now c.add.new.self.events) c.self.view_is
    (finished_whole (rules_of g.N.RunName.records g.N.RunName.script g.N.RunName.settings) c.self.inside.p g.N.RunName.settings.marks g.N.RunName.settings.tentative g.N.RunName.tells g.N.RunName.job.reduced (pairs_of g.N.RunName.job g.N.RunName.records g.N.RunName.settings c.self.inside.p) c.self.inside.journal c.self.inside.kept.items c.self.invariant
    grows.no_restart c.add.new.self c.args.begun.now c.add.ensures.adds c.in-None.ensures.none
    (subst (λ (v : ShelfValue). NamesBelow (slice_index c.args.begun.now) v.journal.events) back c.requires.named)
    (subst (λ (v : ShelfValue). NoFinish v.journal.events) back first))
