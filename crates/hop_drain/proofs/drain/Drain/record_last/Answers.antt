use Rattle.std.proofs.Common.{◌≡◌, sym, ap, ◌∙◌}
use Rattle.hop_machine.specs.actors.ReducerTurns.{Reducer, marks_due}
use Rattle.hop_inner.specs.Setups.{setup_of}
use Rattle.hop_drain.proofs.Growing.{due_now}
use Rattle.hop_drain.proofs.Calling.{last_ran}
use Rattle.hop_drain.proofs.drain.Drain.record_last.Goals as goal

pub returns : goal.returns
returns g c =
    let N = g.N.RunName in let r = c.args.self.now in let s = c.args.shelf in let sound = c.known.ensures.sound in
    let due : s.journal.due ≡ marks_due r.setup s.journal.events = due_now (setup_of N.records N.script N.settings) s.journal sound.lens sound.tentative_is sound.marks_are c.requires.added.due ∙ ap (λ st. marks_due st s.journal.events) (sym c.fixed.ensures) in
    last_ran g.E.Reach.exact r s c.self.inside.p (g.E.Reach.deeds c.args.reach.now) (g.E.Reach.deeds c.record_on.new.reach) (ap (λ (r : Reducer). r.number) c.self.view_is) c.requires.added due c.record_on.ensures
