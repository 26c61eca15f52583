use Rattle.std.proofs.Common.{sym, ap, subst}
use Rattle.hop_machine.specs.declared.words.Who.TheVariants as whose
use Rattle.hop_machine.specs.actors.ReducerTurns.{Reducer}
use Rattle.hop_machine.specs.step.Steps.{Steps, Join, AskWinner}
use Rattle.hop_machine.specs.home.Conditions.{May}
use Rattle.hop_inner.specs.Setups.{parts}
use Rattle.hop_drain.proofs.drain.Drain.read_notice.Goals as goal

pub winner_on-told-requires : goal.winner_on-told-requires
winner_on-told-requires g c =
    let e = g.E.Reach.exact in let a = g.E.Reach.deeds c.args.reach.now in let m = g.E.Reach.deeds c.join_on.new.reach in let here = ap (λ (r : Reducer). r.number) c.self.view_is in
    let joins : Steps e (Join c.args.self.now.number c.args.split c.args.attempt) tt a m = subst (λ q. Steps e (Join q c.args.split c.args.attempt) tt a m) here c.join_on.ensures in
    subst (λ q. May parts (AskWinner (whose.Reducer q) c.args.split) m) (sym here) (c.requires.safe.1 tt m joins).0

pub read_verdict-requires-clause-safe : goal.read_verdict-requires-clause-safe
read_verdict-requires-clause-safe g c =
    let e = g.E.Reach.exact in let a = g.E.Reach.deeds c.args.reach.now in let m = g.E.Reach.deeds c.join_on.new.reach in let n = g.E.Reach.deeds c.winner_on-told.new.reach in let here = ap (λ (r : Reducer). r.number) c.self.view_is in
    let joins : Steps e (Join c.args.self.now.number c.args.split c.args.attempt) tt a m = subst (λ q. Steps e (Join q c.args.split c.args.attempt) tt a m) here c.join_on.ensures in
    let asks : Steps e (AskWinner (whose.Reducer c.args.self.now.number) c.args.split) c.winner_on-told.result m n = subst (λ q. Steps e (AskWinner (whose.Reducer q) c.args.split) c.winner_on-told.result m n) here c.winner_on-told.ensures in
    (c.requires.safe.1 tt m joins).1 c.winner_on-told.result n asks
