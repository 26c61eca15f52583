use Rattle.hop_actors.specs.Acting.{said_turn}
use Rattle.hop_settle.proofs.TurnLaws.{reduced_at}
use Rattle.hop_settle.proofs.turns.reduce_turn.Goals as goal

pub returns-clause-reduced : goal.returns-clause-reduced
returns-clause-reduced g c =
    let E = g.E.Reach in
    reduced_at c.args.reducers.now.items c.args.p c.index_mut.result.now c.turn.new.self _ c.requires.place c.index_mut.ensures.value g.D.Taker.reducer g.D.Actor.acting g.met.D.Taker.is_reducer
    E.exact (E.deeds c.args.reach.now) (E.deeds c.turn.new.reach) (said_turn c.turn.result) c.turn.ensures.turned
