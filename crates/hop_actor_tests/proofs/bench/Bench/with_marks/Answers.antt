use Rattle.std.proofs.Common.{[], map, arith, ap}
use Rattle.hop_machine.specs.actors.MapperTurns.{Mapper}
use Rattle.hop_machine.specs.home.Starts.{new_writer}
use Rattle.hop_inner.specs.Setups.{setup_of}
use Rattle.hop_crew.specs.PlainWorlds.{deeds_of}
use Rattle.hop_mapper.specs.Mappers.{mapper_of}
use Rattle.hop_settle.specs.Crews.{actors_of}
use Rattle.hop_actor_tests.proofs.Beginnings.{none_due}
use Rattle.hop_actor_tests.proofs.bench.Bench.with_marks.Goals as goal

pub invariant_of-result : goal.invariant_of-result
invariant_of-result g c = λ _.
    let n = g.N.RunName in let setup = setup_of n.records n.script n.settings in
    let ms = map (mapper_of n.records n.script n.settings) c.in_ok-mappers.mappers.items in let rs = c.in_ok-reducers.reducers.items in let d = deeds_of setup c.in_ok-world.world in
    let start = c.new_actors_start.ensures.start setup n.settings.backup ms rs d c.settings_make_a_setup.ensures c.in_ok-mappers.ensures.mappers c.in_ok-reducers.ensures c.in_ok-world.ensures.new in
    let opens = c.runs_stay_at_home.ensures.start n.settings.backup [] (record { actors = actors_of ms rs (new_writer setup); deeds = d }) start in
    record {
      ready = record { home = opens.home; «open» = opens.«open»; none = none_due setup d c.requires.unreached c.in_ok-world.ensures.new };
      ends = c.in_ok-world.ensures.all;
      well = λ k m is. let f = c.in_ok-mappers.ensures.fresh k m is in (f.well, f.fits d.ends.board);
      few = λ k m is. let none = ap (λ (x : Mapper). x.turns) (start.mapper k m is) in omega (arith, none);
    }
