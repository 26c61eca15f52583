use Rattle.std.proofs.Common.{ap, ◌∙◌, subst}
use Rattle.hop_machine.specs.step.Steps.{Steps, Hold, Ends, KeepEnd}
use Rattle.hop_machine.specs.actors.ReducerTurns.{Reducer}
use Rattle.hop_inner.specs.Shelved.{value_of}
use Rattle.hop_drain.proofs.Lanes.{hold_held}
use Rattle.hop_drain.proofs.drain.Drain.hold.Goals as goal

pub returns-clause-held : goal.returns-clause-held
returns-clause-held g c =
    let e = g.E.Reach.exact in let p = c.args.self.now.number in let a = g.E.Reach.deeds c.args.reach.now in let b = g.E.Reach.deeds c.hold.new.self in let here = ap (λ (r : Reducer). r.number) c.self.view_is in
    let st : Steps e (Hold p) (value_of c.hold.result) a b = subst (λ q. Steps e (Hold q) (value_of c.hold.result) a b) here c.hold.ensures.step in
    hold_held e p c.hold.result a b st (c.hold.ensures.number ∙ here)

pub returns-clause-end : goal.returns-clause-end
returns-clause-end g c = ap (λ (x : Ends). x.has (KeepEnd c.args.self.now.number)) c.hold.ensures.step.ends ∙ c.requires.end
