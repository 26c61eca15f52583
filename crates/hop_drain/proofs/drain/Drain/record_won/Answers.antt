use Rattle.std.proofs.Common.{◌≡◌, subst, refl, rules, true, is_none}
use Rattle.hop_shelf.specs.Names.{pairs_of}
use Rattle.hop_event.specs.History.{winner}
use Rattle.hop_event.specs.declared.event.Event.TheVariants.{Won}
use Rattle.hop_machine.specs.actors.ReducerTurns.{notes, notes_new}
use Rattle.hop_machine.specs.home.Conditions.{Safe}
use Rattle.hop_inner.specs.Setups.{parts, setup_of}
use Rattle.hop_drain.proofs.Growing.{of_sound, notes_follow, may_grow}
use Rattle.hop_drain.proofs.drain.Drain.record_won.Goals as goal

pub won-requires-clause-grows : goal.won-requires-clause-grows
won-requires-clause-grows g c =
    let N = g.N.RunName in let e = g.E.Reach.exact in let r = c.args.self.now in let s = c.args.shelf in let a = g.E.Reach.deeds c.args.reach.now in let st = setup_of N.records N.script N.settings in
    let of = of_sound N.records N.script N.settings N.tells N.job.reduced (pairs_of N.job N.records N.settings s.p) s c.known.ensures.sound in
    let ev = Won c.args.split c.args.attempt in
    let new : (is_none (winner c.args.split s.journal.events)) ≡ true = search rules in
    let safe : Safe parts e (notes r s.journal.events ev) a = subst (λ b. Safe parts e (notes_new r s.journal.events b ev) a) new c.requires.safe in
    let follows = notes_follow e st r s ev a (g.met.E.Reach.of_run c.args.reach.now) c.requires.held safe in
    may_grow st s ev of c.requires.ready refl follows

pub won-requires-clause-may : goal.won-requires-clause-may
won-requires-clause-may g c =
    let N = g.N.RunName in let e = g.E.Reach.exact in let r = c.args.self.now in let s = c.args.shelf in let a = g.E.Reach.deeds c.args.reach.now in let st = setup_of N.records N.script N.settings in
    let of = of_sound N.records N.script N.settings N.tells N.job.reduced (pairs_of N.job N.records N.settings s.p) s c.known.ensures.sound in
    let ev = Won c.args.split c.args.attempt in
    let new : (is_none (winner c.args.split s.journal.events)) ≡ true = search rules in
    let safe : Safe parts e (notes r s.journal.events ev) a = subst (λ b. Safe parts e (notes_new r s.journal.events b ev) a) new c.requires.safe in
    let follows = notes_follow e st r s ev a (g.met.E.Reach.of_run c.args.reach.now) c.requires.held safe in
    follows.rule
