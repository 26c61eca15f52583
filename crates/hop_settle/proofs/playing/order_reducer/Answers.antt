use Rattle.std.proofs.Common.{◌∷◌, map, sym, ap, ◌∙◌, subst, Result, arith}
use Rattle.std.proofs.lemmas.List.{length-map}
use Rattle.hop_machine.specs.declared.words.Who.TheVariants as whose
use Rattle.hop_machine.specs.play.Play.{Place, TurnOf, Listed, Went}
use Rattle.hop_machine.proofs.play.Going.{listed-turn}
use Rattle.hop_actors.specs.Acting.{said_turn}
use Rattle.hop_actors.specs.declared.fault.Fault.{Fault}
use Rattle.hop_settle.specs.Crews.{actors_of, world_of}
use Rattle.hop_settle.specs.Stops.{place_after}
use Rattle.hop_settle.proofs.Lists.{map-at}
use Rattle.hop_settle.proofs.AnswerLaws.{place_is}
use Rattle.hop_settle.proofs.DrainLaws.{may_reduce, red_ends, red_turned}
use Rattle.hop_settle.proofs.playing.order_reducer.Goals as goal

pub reduce_turn-requires-clause-may : goal.reduce_turn-requires-clause-may
reduce_turn-requires-clause-may g c = λ m is.
    let f = g.D.Taker.reducer in let h = c.requires.home in let xs = c.args.reducers.now.items in let l = c.requires.place in
    may_reduce (actors_of h.0 (map f xs) h.1) (g.E.Reach.deeds c.args.reach.now) c.args.p (f m) h.2 c.requires.ends (omega (arith, l, length-map xs f)) (map-at f xs c.args.p m is)

pub returns-clause-went : goal.returns-clause-went
returns-clause-went g c = λ later ms x.
    let e = g.E.Reach.exact in let f = g.D.Taker.reducer in let n = c.reduce_turn in let p = c.args.p in
    let rs = map f c.args.reducers.now.items in let ss = map f n.new.reducers.items in let a = g.E.Reach.deeds c.args.reach.now in let b = g.E.Reach.deeds n.new.reach in
    let go : Place = Listed later in
    subst (λ (q : Place). Went e (Listed (TurnOf (whose.Reducer p) ∷ later), world_of ms rs x a) (q, world_of ms ss x b)) (sym (ap (λ (r : Result (Unit {0}) Fault). place_after r go) c.went_on.ensures ∙ place_is n.result go))
    (listed-turn e (whose.Reducer p) later (world_of ms rs x a) (world_of ms ss x b) (said_turn n.result) (red_turned e p rs a ss (said_turn n.result) b n.ensures.reduced ms x))

pub returns-clause-ends : goal.returns-clause-ends
returns-clause-ends g c = let E = g.E.Reach in let f = g.D.Taker.reducer in let n = c.reduce_turn in
    red_ends E.exact c.args.p (map f c.args.reducers.now.items) (E.deeds c.args.reach.now) (map f n.new.reducers.items) (said_turn n.result) (E.deeds n.new.reach) n.ensures.reduced
