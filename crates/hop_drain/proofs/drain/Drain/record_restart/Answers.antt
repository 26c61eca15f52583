use Rattle.std.proofs.Common.{◌≡◌, Bool, true, Option, Some, refl, rules, sym, ap, ◌∙◌}
use Rattle.hop_shelf.specs.Names.{pairs_of}
use Rattle.hop_shelf.specs.Journal.{JournalValue}
use Rattle.hop_machine.specs.actors.ReducerTurns.{Reducer, must_restart}
use Rattle.hop_inner.specs.Setups.{setup_of}
use Rattle.hop_drain.proofs.Growing.{of_sound, restart_ran}
use Rattle.hop_drain.proofs.Lanes.{must_is}
use Rattle.hop_drain.proofs.Calling.{restart_may, restarted, not_restarted}
use Rattle.hop_drain.proofs.drain.Drain.record_restart.Goals as goal

pub restart-requires-clause-may : goal.restart-requires-clause-may
restart-requires-clause-may g c =
    let N = g.N.RunName in let r = c.args.self.now in let s = c.hold-shelf.result in let st = setup_of N.records N.script N.settings in
    let of = of_sound N.records N.script N.settings N.tells N.job.reduced (pairs_of N.job N.records N.settings s.p) s c.known.ensures.sound in
    let it : c.restart_due.result ≡ true = search rules in
    let must : must_restart r.setup r.number s.journal.events ≡ true = sym (must_is st r s c.fixed.ensures c.hold-shelf.ensures.held.number of) ∙ sym c.restart_due.ensures ∙ it in
    restart_may g.E.Reach.exact r s (g.E.Reach.deeds c.args.reach.now) (g.E.Reach.deeds c.hold-shelf.new.reach) c.hold-shelf.ensures.step must c.requires.safe

pub returns : goal.returns
returns g c =
    let N = g.N.RunName in let r = c.args.self.now in let s = c.hold-shelf.result in let st = setup_of N.records N.script N.settings in let e = g.E.Reach.exact in
    let of = of_sound N.records N.script N.settings N.tells N.job.reduced (pairs_of N.job N.records N.settings s.p) s c.known.ensures.sound in
    let it : c.restart_due.result ≡ true = search rules in
    let must : must_restart r.setup r.number s.journal.events ≡ true = sym (must_is st r s c.fixed.ensures c.hold-shelf.ensures.held.number of) ∙ sym c.restart_due.ensures ∙ it in
    let m = g.E.Reach.deeds c.hold-shelf.new.reach in let b = g.E.Reach.deeds c.restart.new.reach in
    let some : Option Bool = Some true in
    let one = Rattle.std.proofs.Common.subst (λ (j : JournalValue). Rattle.hop_inner.specs.Locks.RecordsOne e r.number Rattle.hop_event.specs.declared.event.Event.TheVariants.Restart (Rattle.hop_machine.specs.actors.ReducerTurns.marks_due r.setup (Rattle.std.proofs.Common.◌∷◌ Rattle.hop_event.specs.declared.event.Event.TheVariants.Restart j.events)) m b) c.reserve.ensures.journal c.restart.ensures.records in
    restarted e r s (g.E.Reach.deeds c.args.reach.now) m c.hold-shelf.ensures.step must c.restart.new.self b (restart_ran e r c.restart.new.self s.journal.events m b some c.restart.ensures.lags one)

pub returns-then-is_err : goal.returns-then-is_err
returns-then-is_err g c =
    let N = g.N.RunName in let r = c.args.self.now in let s = c.hold-shelf.result in let st = setup_of N.records N.script N.settings in
    let of = of_sound N.records N.script N.settings N.tells N.job.reduced (pairs_of N.job N.records N.settings s.p) s c.known.ensures.sound in
    let it : c.restart_due.result ≡ true = search rules in
    let must : must_restart r.setup r.number s.journal.events ≡ true = sym (must_is st r s c.fixed.ensures c.hold-shelf.ensures.held.number of) ∙ sym c.restart_due.ensures ∙ it in
    not_restarted g.E.Reach.exact r s (g.E.Reach.deeds c.args.reach.now) (g.E.Reach.deeds c.hold-shelf.new.reach) c.hold-shelf.ensures.step must r (g.E.Reach.deeds c.give-then-is_err.new.reach) c.reserve.new.self.journal.due refl
    (ap (λ (j : JournalValue). j.due) c.reserve.ensures.journal) c.give-then-is_err.ensures
