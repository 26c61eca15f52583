use Rattle.std.proofs.Common.{true, false, sym, ap, subst}
use Rattle.hop_shelf.specs.Journal.{JournalValue}
use Rattle.hop_machine.specs.step.Steps.{GiveBack}
use Rattle.hop_machine.specs.actors.ReducerTurns.{Reducer}
use Rattle.hop_machine.specs.home.Conditions.{Safe, May}
use Rattle.hop_machine.proofs.step.Programs.{risk_steps}
use Rattle.hop_inner.specs.Setups.{parts}
use Rattle.hop_drain.specs.Drains.{acts}
use Rattle.hop_drain.proofs.drain.Drain.go_on.Goals as goal

pub act-requires-clause-safe : goal.act-requires-clause-safe
act-requires-clause-safe g c =
    let e = g.E.Reach.exact in let r = c.args.self.now in let s = c.args.shelf in let a = g.E.Reach.deeds c.args.reach.now in
    let safe : Safe parts e (acts r s.journal.events) a = c.requires.safe.1 true a (risk_steps e true a) in
    subst (λ (j : JournalValue). Safe parts e (acts r j.events) a) (sym c.reserve.ensures.journal) safe

pub give_back_on-requires-clause-may : goal.give_back_on-requires-clause-may
give_back_on-requires-clause-may g c =
    let e = g.E.Reach.exact in let r = c.args.self.now in let s = c.args.shelf in let a = g.E.Reach.deeds c.args.reach.now in
    let may : May parts (GiveBack r.number s.journal.due) a = (c.requires.safe.1 false a (risk_steps e false a)).0 in
    subst (λ p. May parts (GiveBack p c.reserve.new.self.journal.due) a) (sym (ap (λ (r : Reducer). r.number) c.self.view_is))
    (subst (λ (j : JournalValue). May parts (GiveBack r.number j.due) a) (sym c.reserve.ensures.journal) may)
