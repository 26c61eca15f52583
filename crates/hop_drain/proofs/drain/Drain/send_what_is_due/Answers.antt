use Rattle.std.proofs.Common.{subst}
use Rattle.hop_machine.specs.step.Steps.{Runs}
use Rattle.hop_machine.specs.actors.ReducerTurns.{send_due}
use Rattle.hop_drain.proofs.Calling.{due_safe, due_end, due_held, due_ran}
use Rattle.hop_drain.proofs.drain.Drain.send_what_is_due.Goals as goal

pub send_cuts-sent-requires-clause-safe : goal.send_cuts-sent-requires-clause-safe
send_cuts-sent-requires-clause-safe g c =
    due_safe g.E.Reach.exact c.args.self.now c.hold-shelf.result (g.E.Reach.deeds c.args.reach.now) (g.E.Reach.deeds c.hold-shelf.new.reach) c.hold-shelf.ensures.step c.requires.safe

pub give-requires-clause-end : goal.give-requires-clause-end
give-requires-clause-end g c =
    due_end g.E.Reach.exact c.args.self.now c.hold-shelf.result (g.E.Reach.deeds c.args.reach.now) (g.E.Reach.deeds c.hold-shelf.new.reach) c.hold-shelf.ensures.step c.requires.safe c.send_cuts-sent.result (g.E.Reach.deeds c.send_cuts-sent.new.reach) c.send_cuts-sent.ensures.runs

pub give-requires-clause-held : goal.give-requires-clause-held
give-requires-clause-held g c =
    due_held g.E.Reach.exact c.args.self.now c.hold-shelf.result (g.E.Reach.deeds c.args.reach.now) (g.E.Reach.deeds c.hold-shelf.new.reach) c.hold-shelf.ensures.step c.send_cuts-sent.result c.send_cuts-sent.new.shelf (g.E.Reach.deeds c.send_cuts-sent.new.reach)
    c.hold-shelf.ensures.held c.send_cuts-sent.ensures.runs c.send_cuts-sent.ensures.shelf

pub returns-then-sent : goal.returns-then-sent
returns-then-sent g c =
    let e = g.E.Reach.exact in let a = g.E.Reach.deeds c.args.reach.now in let b = g.E.Reach.deeds c.give.new.reach in
    subst (λ ok. Runs e (send_due c.args.self.now) a ok b) c.if-sent.true
    (due_ran e c.args.self.now c.hold-shelf.result a (g.E.Reach.deeds c.hold-shelf.new.reach) c.hold-shelf.ensures.step c.send_cuts-sent.result c.send_cuts-sent.new.shelf (g.E.Reach.deeds c.send_cuts-sent.new.reach) b
    c.send_cuts-sent.ensures.runs c.send_cuts-sent.ensures.shelf c.give.ensures)

pub returns-else-sent : goal.returns-else-sent
returns-else-sent g c =
    let e = g.E.Reach.exact in let a = g.E.Reach.deeds c.args.reach.now in let b = g.E.Reach.deeds c.give.new.reach in
    subst (λ ok. Runs e (send_due c.args.self.now) a ok b) c.if-sent.false
    (due_ran e c.args.self.now c.hold-shelf.result a (g.E.Reach.deeds c.hold-shelf.new.reach) c.hold-shelf.ensures.step c.send_cuts-sent.result c.send_cuts-sent.new.shelf (g.E.Reach.deeds c.send_cuts-sent.new.reach) b
    c.send_cuts-sent.ensures.runs c.send_cuts-sent.ensures.shelf c.give.ensures)
