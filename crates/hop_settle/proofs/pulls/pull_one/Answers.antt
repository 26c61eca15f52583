use Rattle.std.proofs.Common.{◌<◌, List, map, arith, sym, subst}
use Rattle.std.proofs.lemmas.List.{length-map, map-set}
use Rattle.hop_machine.specs.actors.MapperTurns.{Mapper}
use Rattle.hop_machine.specs.actors.ReducerTurns.{Reducer}
use Rattle.hop_machine.specs.play.Play.{Pulling, Went, after_pull}
use Rattle.hop_machine.specs.settling.Settling.{pulls_left, split_after}
use Rattle.hop_machine.proofs.play.Plays.{went_same}
use Rattle.hop_actors.specs.Calls.{found}
use Rattle.hop_settle.specs.Crews.{actors_of, world_of}
use Rattle.hop_settle.proofs.Lists.{map-at}
use Rattle.hop_settle.proofs.TurnLaws.{stands_at}
use Rattle.hop_settle.proofs.LackLaws.{lacks-begins}
use Rattle.hop_settle.proofs.SplitLaws.{split-ends, split-went, split-falls, when_found}
use Rattle.hop_settle.proofs.pulls.pull_one.Goals as goal

pub pull_winner-requires-clause-number : goal.pull_winner-requires-clause-number
pull_winner-requires-clause-number g c =
    let h = c.requires.home.1 in let f = g.D.Taker.reducer in let xs = c.args.reducers.now.items in let y = c.index_mut.result.now in
    (h.ends.home.reducer c.args.p (f y) (map-at f xs c.args.p y (stands_at xs c.args.p y y _ c.requires.place c.index_mut.ensures.value))).number

pub pull_winner-requires-clause-lacks : goal.pull_winner-requires-clause-lacks
pull_winner-requires-clause-lacks g c =
    let h = c.requires.home in let f = g.D.Taker.reducer in let xs = c.args.reducers.now.items in let y = c.index_mut.result.now in let E = g.E.Reach in
    let inside : c.args.p < (E.deeds c.args.reach.now).setup.reducers = let l = c.requires.place in let n = h.1.ends.home.reducers in omega (arith, l, n, length-map xs f) in
    lacks-begins c.args.p c.args.split c.args.split (actors_of (map g.M.Store.mapper c.args.mappers.now.items) (map f xs) h.0) (E.deeds c.args.reach.now) h.1 inside (f y)
    (map-at f xs c.args.p y (stands_at xs c.args.p y y _ c.requires.place c.index_mut.ensures.value))

pub pull_winner-requires-clause-ends : goal.pull_winner-requires-clause-ends
pull_winner-requires-clause-ends g c =
    let h = c.requires.home.1 in let xs = c.args.reducers.now.items in
    c.requires.ends c.args.p (let l = c.requires.place in let n = h.ends.home.reducers in omega (arith, l, n, length-map xs g.D.Taker.reducer))

pub returns-clause-went : goal.returns-clause-went
returns-clause-went g c = λ x.
    let E = g.E.Reach in let e = E.exact in let f = g.D.Taker.reducer in let k = g.M.Store.mapper in let xs = c.args.reducers.now.items in let p = c.args.p in let n = c.pull_winner in let y = c.index_mut.result.now in
    let a = E.deeds c.args.reach.now in let b = E.deeds n.new.reach in
    let at = map-at f xs p y (stands_at xs p y y _ c.requires.place c.index_mut.ensures.value) in
    let l = c.requires.place in
    subst (λ (u : List Mapper × List Reducer). Went e (Pulling p c.args.split, world_of (map k c.args.mappers.now.items) (map f xs) x a) (after_pull p c.args.split (found n.result), world_of u.0 u.1 x b))
    (λ t. (sym n.ensures.same t, sym (map-set f xs p n.new.reducer) t))
    (split-went e p c.args.split (map f xs) a (f y) (f n.new.reducer, found n.result) b at n.ensures.runs (omega (arith, l, length-map xs f)) c.requires.split (map k c.args.mappers.now.items) x)

pub returns-clause-falls : goal.returns-clause-falls
returns-clause-falls g c =
    let E = g.E.Reach in let e = E.exact in let f = g.D.Taker.reducer in let xs = c.args.reducers.now.items in let p = c.args.p in let n = c.pull_winner in let y = c.index_mut.result.now in let h = c.requires.home in
    let a = E.deeds c.args.reach.now in let b = E.deeds n.new.reach in
    let at = map-at f xs p y (stands_at xs p y y _ c.requires.place c.index_mut.ensures.value) in
    let home = h.1.ends.home.reducer p (f y) at in
    let l = c.requires.place in
    let w = split-went e p c.args.split (map f xs) a (f y) (f n.new.reducer, found n.result) b at n.ensures.runs (omega (arith, l, length-map xs f)) c.requires.split (map g.M.Store.mapper c.args.mappers.now.items) h.0 in
    let same = went_same e _ _ w in
    when_found n.result (λ t. pulls_left p (split_after c.args.split t) b < pulls_left p c.args.split a)
    (λ t is. split-falls e p c.args.split (map f xs) a (f y) (f n.new.reducer, found n.result) b at n.ensures.runs home.number home.home.setup same c.requires.split t is)

pub returns-clause-ends : goal.returns-clause-ends
returns-clause-ends g c =
    let E = g.E.Reach in let f = g.D.Taker.reducer in let xs = c.args.reducers.now.items in let p = c.args.p in let n = c.pull_winner in let y = c.index_mut.result.now in
    split-ends E.exact p c.args.split (map f xs) (E.deeds c.args.reach.now) (f y) (f n.new.reducer, found n.result) (E.deeds n.new.reach) (map-at f xs p y (stands_at xs p y y _ c.requires.place c.index_mut.ensures.value)) n.ensures.runs
