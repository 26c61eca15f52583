use Rattle.std.proofs.Common.{map, arith, refl, sym, ◌∙◌}
use Rattle.std.proofs.lemmas.List.{length-map}
use Rattle.hop_machine.specs.home.Starts.{new_writer}
use Rattle.hop_inner.specs.Setups.{setup_of}
use Rattle.hop_crew.specs.PlainWorlds.{deeds_of}
use Rattle.hop_mapper.specs.Mappers.{mapper_of}
use Rattle.hop_settle.specs.Crews.{actors_of}
use Rattle.hop_settle.proofs.Lists.{map-at}
use Rattle.hop_settle.proofs.PassLaws.{may_map}
use Rattle.hop_actor_tests.proofs.Homes.{mapped_home}
use Rattle.hop_actor_tests.proofs.bench.Bench.map.Goals as goal

pub map_turn-turn-requires-clause-may : goal.map_turn-turn-requires-clause-may
map_turn-turn-requires-clause-may g c = λ m is.
    let n = g.N.RunName in let setup = setup_of n.records n.script n.settings in let ms = c.self.inside.mappers.items in
    let h = c.self.invariant c.if-self.false in
    let at = map-at (mapper_of n.records n.script n.settings) ms c.args.w m is in
    let few = h.few c.args.w (mapper_of n.records n.script n.settings m) at in
    let long = length-map ms (mapper_of n.records n.script n.settings) in
    may_map (actors_of (map (mapper_of n.records n.script n.settings) ms) c.self.inside.reducers.items (new_writer setup)) (deeds_of setup c.self.inside.world) c.args.w (mapper_of n.records n.script n.settings m)
    h.ready h.ends (omega (arith, long, c.self.inside.mappers.ok)) at (omega (arith, few, c.if-self-ge1000.false))

pub invariant_of-self : goal.invariant_of-self
invariant_of-self g c = λ off.
    let on = sym c.has_failed-self-inside.ensures ∙ off in
    mapped_home _ _ _ _ _ _ _ _ on refl c.args.w c.self.inside.mappers.items c.map_turn-turn.new.mappers.items c.self.inside.reducers.items (c.self.invariant c.if-self.false) c.map_turn-turn.ensures.mapped (c.map_turn-turn.ensures.well on)
