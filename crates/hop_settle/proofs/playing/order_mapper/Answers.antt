use Rattle.std.proofs.Common.{◌+◌, ◌∷◌, map, sym, ap, ◌∙◌, subst, Result, OnOk, arith}
use Rattle.std.proofs.lemmas.List.{length-map}
use Rattle.hop_machine.specs.declared.words.Who.TheVariants as whose
use Rattle.hop_machine.specs.play.Play.{Place, TurnOf, Listed, Went}
use Rattle.hop_machine.proofs.play.Going.{listed-turn}
use Rattle.hop_actors.specs.Acting.{said_turn}
use Rattle.hop_actors.specs.declared.fault.Fault.{Fault}
use Rattle.hop_settle.specs.Crews.{AreWell, actors_of, world_of}
use Rattle.hop_settle.specs.Stops.{place_after}
use Rattle.hop_settle.proofs.Lists.{map-at}
use Rattle.hop_settle.proofs.AnswerLaws.{place_is, ok_when}
use Rattle.hop_settle.proofs.PassLaws.{may_map, map_ends, map_turned, map_turns, turns_end}
use Rattle.hop_settle.proofs.playing.order_mapper.Goals as goal

pub map_turn-requires-clause-may : goal.map_turn-requires-clause-may
map_turn-requires-clause-may g c = λ m is.
    let f = g.M.Store.mapper in let h = c.requires.home in let xs = c.args.mappers.now.items in
    let at = map-at f xs c.args.w m is in let l = c.requires.place in
    may_map (actors_of (map f xs) h.0 h.1) (g.E.Reach.deeds c.args.reach.now) c.args.w (f m) h.2 c.requires.ends (omega (arith, l, length-map xs f)) at (c.requires.turns c.args.w (f m) at)

pub returns-clause-went : goal.returns-clause-went
returns-clause-went g c = λ later rs x.
    let e = g.E.Reach.exact in let f = g.M.Store.mapper in let n = c.map_turn in let w = c.args.w in
    let ms = map f c.args.mappers.now.items in let ns = map f n.new.mappers.items in let a = g.E.Reach.deeds c.args.reach.now in let b = g.E.Reach.deeds n.new.reach in
    let go : Place = Listed later in
    subst (λ (p : Place). Went e (Listed (TurnOf (whose.Mapper w) ∷ later), world_of ms rs x a) (p, world_of ns rs x b)) (sym (ap (λ (r : Result (Unit {0}) Fault). place_after r go) c.went_on.ensures ∙ place_is n.result go))
    (listed-turn e (whose.Mapper w) later (world_of ms rs x a) (world_of ns rs x b) (said_turn n.result) (map_turned e w ms a ns (said_turn n.result) b n.ensures.mapped rs x))

pub returns-clause-ends : goal.returns-clause-ends
returns-clause-ends g c = let E = g.E.Reach in let f = g.M.Store.mapper in let n = c.map_turn in
    map_ends E.exact c.args.w (map f c.args.mappers.now.items) (E.deeds c.args.reach.now) (map f n.new.mappers.items) (said_turn n.result) (E.deeds n.new.reach) n.ensures.mapped

pub returns-clause-well : goal.returns-clause-well
returns-clause-well g c = let M = g.M.Actor in let n = c.map_turn in let P = AreWell M.failed M.fits (g.E.Reach.deeds n.new.reach).ends.board n.new.mappers.items in
    subst (λ (r : Result (Unit {0}) Fault). OnOk r P) (sym c.went_on.ensures) (ok_when n.result P n.ensures.well)

pub returns-clause-turns : goal.returns-clause-turns
returns-clause-turns g c = λ k below. let E = g.E.Reach in let f = g.M.Store.mapper in let n = c.map_turn in
    turns_end (c.args.w + 1) k (map f n.new.mappers.items)
    (map_turns E.exact c.args.w (map f c.args.mappers.now.items) (E.deeds c.args.reach.now) (map f n.new.mappers.items) (said_turn n.result) (E.deeds n.new.reach) n.ensures.mapped k
    (λ j m is. let l = below j m is in (omega (arith, l), λ _. l)))
