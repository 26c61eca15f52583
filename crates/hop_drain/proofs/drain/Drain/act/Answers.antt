use Rattle.std.proofs.Common.{◌≡◌, true, sym, ◌∙◌, subst, if◌then◌else◌}
use Rattle.hop_shelf.specs.Names.{pairs_of}
use Rattle.hop_machine.specs.step.Steps.{Runs}
use Rattle.hop_machine.specs.declared.words.Turn.{Turn}
use Rattle.hop_machine.specs.declared.words.Turn.TheVariants.{Worked}
use Rattle.hop_machine.specs.actors.ReducerTurns.{Reducer, must_restart, looks}
use Rattle.hop_machine.specs.home.Conditions.{Safe}
use Rattle.hop_inner.specs.Setups.{parts, setup_of}
use Rattle.hop_drain.specs.Drains.{restarts_now}
use Rattle.hop_drain.proofs.Growing.{of_sound, restart_ran}
use Rattle.hop_drain.proofs.Lanes.{must_is}
use Rattle.hop_drain.proofs.drain.Drain.act.Goals as goal

pub restart-requires-clause-may : goal.restart-requires-clause-may
restart-requires-clause-may g c =
    let N = g.N.RunName in let r = c.args.self.now in let s = c.args.shelf in let st = setup_of N.records N.script N.settings in let h = s.journal.events in let a = g.E.Reach.deeds c.args.reach.now in
    let of = of_sound N.records N.script N.settings N.tells N.job.reduced (pairs_of N.job N.records N.settings s.p) s c.known.ensures.sound in
    let must : must_restart r.setup r.number h ≡ true = sym (must_is st r s c.fixed.ensures c.requires.held.number of) ∙ sym c.restart_due.ensures ∙ c.if-restart_due.true in
    let safe : Safe parts g.E.Reach.exact (restarts_now r h) a = subst (λ b. Safe parts g.E.Reach.exact (if b then restarts_now r h else looks r h r.setup.workers r.next) a) must c.requires.safe in
    safe.0

pub returns-then-restart_due : goal.returns-then-restart_due
returns-then-restart_due g c =
    let N = g.N.RunName in let e = g.E.Reach.exact in let r = c.args.self.now in let s = c.args.shelf in let st = setup_of N.records N.script N.settings in let h = s.journal.events in let a = g.E.Reach.deeds c.args.reach.now in
    let of = of_sound N.records N.script N.settings N.tells N.job.reduced (pairs_of N.job N.records N.settings s.p) s c.known.ensures.sound in
    let must : must_restart r.setup r.number h ≡ true = sym (must_is st r s c.fixed.ensures c.requires.held.number of) ∙ sym c.restart_due.ensures ∙ c.if-restart_due.true in
    let x : Reducer × Turn = (c.restart.new.self, Worked) in let d = g.E.Reach.deeds c.restart.new.reach in
    subst (λ b. Runs e (if b then restarts_now r h else looks r h r.setup.workers r.next) a x d) (sym must) (restart_ran e r c.restart.new.self h a d Worked c.restart.ensures.lags c.restart.ensures.records)
