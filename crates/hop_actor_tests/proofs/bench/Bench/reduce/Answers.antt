use Rattle.std.proofs.Common.{map, arith, refl, sym, ◌∙◌}
use Rattle.hop_machine.specs.home.Starts.{new_writer}
use Rattle.hop_inner.specs.Setups.{setup_of}
use Rattle.hop_crew.specs.PlainWorlds.{deeds_of}
use Rattle.hop_mapper.specs.Mappers.{mapper_of}
use Rattle.hop_settle.specs.Crews.{actors_of}
use Rattle.hop_settle.proofs.DrainLaws.{may_reduce}
use Rattle.hop_actor_tests.proofs.Homes.{reduced_home, reduced_own}
use Rattle.hop_actor_tests.proofs.bench.Bench.reduce.Goals as goal

pub reduce_turn-turn-requires-clause-may : goal.reduce_turn-turn-requires-clause-may
reduce_turn-turn-requires-clause-may g c = λ r is.
    let n = g.N.RunName in let setup = setup_of n.records n.script n.settings in
    let h = c.self.invariant c.if-self.false in
    may_reduce (actors_of (map (mapper_of n.records n.script n.settings) c.self.inside.mappers.items) c.self.inside.reducers.items (new_writer setup)) (deeds_of setup c.self.inside.world) c.args.p r
    h.ready h.ends (omega (arith, c.self.inside.reducers.ok)) is

pub invariant_of-self : goal.invariant_of-self
invariant_of-self g c = λ off.
    let on = sym c.has_failed-self-inside.ensures ∙ off in
    reduced_home _ _ _ _ _ _ _ _ on refl c.args.p c.self.inside.mappers.items c.self.inside.reducers.items c.reduce_turn-turn.new.reducers.items (c.self.invariant c.if-self.false) (reduced_own _ _ _ _ _ _ _ c.reduce_turn-turn.ensures.reduced)
