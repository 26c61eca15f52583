use Rattle.std.proofs.Common.{◌≡◌, ◌∙◌, ap}
use Rattle.hop_machine.specs.actors.ReducerTurns.{Reducer, marks_due}
use Rattle.hop_inner.specs.Setups.{setup_of}
use Rattle.hop_drain.proofs.Growing.{due_now, restart_one}
use Rattle.hop_drain.proofs.drain.Drain.restart.Goals as goal

pub returns-clause-records : goal.returns-clause-records
returns-clause-records g c =
    let N = g.N.RunName in let e = g.E.Reach.exact in let r = c.args.self.now in let s = c.args.shelf in let now = c.restart.new.self in let sound = c.known.ensures.sound in let adds = c.restart.ensures.event in
    let setup = ap (λ (r : Reducer). r.setup) c.self.view_is in
    let due : now.journal.due ≡ marks_due r.setup now.journal.events =
    due_now (setup_of N.records N.script N.settings) now.journal (adds.lens ∙ sound.lens) (adds.tentative ∙ sound.tentative_is) (adds.marks ∙ sound.marks_are) adds.due ∙ ap (λ st. marks_due st now.journal.events) setup in
    restart_one e r s now c.self.inside.p (g.E.Reach.deeds c.args.reach.now) (g.E.Reach.deeds c.record_on.new.reach) (ap (λ (r : Reducer). r.number) c.self.view_is) c.requires.held adds due c.record_on.ensures
