use Rattle.std.proofs.Common.{◌+◌, ◌<◌, ◌∙◌, true, false, List, map, arith, sym, ap, subst, slice_set}
use Rattle.std.proofs.lemmas.List.{length-map, map-set}
use Rattle.hop_machine.specs.step.Setup.{splits_of}
use Rattle.hop_machine.specs.actors.ReducerTurns.{Reducer}
use Rattle.hop_machine.specs.home.Conditions.{HasReducer}
use Rattle.hop_machine.specs.play.Play.{World, Pulling, Halted, Went}
use Rattle.hop_settle.specs.Crews.{actors_of, world_of}
use Rattle.hop_settle.proofs.Lists.{map-at}
use Rattle.hop_settle.proofs.TurnLaws.{stands_at}
use Rattle.hop_settle.proofs.DrainLaws.{not_below}
use Rattle.hop_settle.proofs.LackLaws.{pulls-calm}
use Rattle.hop_settle.proofs.pulls.finish_one.Goals as goal

pub finish-requires-clause-may : goal.finish-requires-clause-may
finish-requires-clause-may g c =
    let E = g.E.Reach in let f = g.D.Taker.reducer in let h = c.requires.home in let xs = c.args.reducers.now.items in let p = c.args.p in let d = E.deeds c.args.reach.now in let y = c.index_mut.result.now in
    let at = map-at f xs p y (stands_at xs p y y _ c.requires.place c.index_mut.ensures.value) in
    let inside : p < d.setup.reducers = let l = c.requires.place in let n = h.2.pulled.ends.home.reducers in omega (arith, l, n, length-map xs f) in
    let calm = pulls-calm p (splits_of d.setup) 0 (actors_of h.0 (map f xs) h.1) d h.2.pulled inside (f y) at in
    record { setup = calm.now.set; home = calm.now.after.home.home; ends = subst (λ n. HasReducer n d) (sym (h.2.pulled.ends.home.reducer p (f y) at).number) (c.requires.ends p inside) }

pub finish-requires-clause-ends : goal.finish-requires-clause-ends
finish-requires-clause-ends g c =
    let E = g.E.Reach in let f = g.D.Taker.reducer in let h = c.requires.home in let xs = c.args.reducers.now.items in let p = c.args.p in let d = E.deeds c.args.reach.now in let y = c.index_mut.result.now in
    let at = map-at f xs p y (stands_at xs p y y _ c.requires.place c.index_mut.ensures.value) in
    let inside : p < d.setup.reducers = let l = c.requires.place in let n = h.2.pulled.ends.home.reducers in omega (arith, l, n, length-map xs f) in
    c.histories_may_finish.ensures p (splits_of d.setup) (actors_of h.0 (map f xs) h.1) d h.2.pulled inside (omega arith) c.requires.few (f y) at c.args.begun.now h.2.numbers

pub returns-in-Ok-clause-went : goal.returns-in-Ok-clause-went
returns-in-Ok-clause-went g c = λ ms x.
    let E = g.E.Reach in let e = E.exact in let f = g.D.Taker.reducer in let xs = c.args.reducers.now.items in let p = c.args.p in let d = E.deeds c.args.reach.now in let b = E.deeds c.finish.new.reach in let y = c.index_mut.result.now in let z = c.finish.new.self in
    let at = map-at f xs p y (stands_at xs p y y _ c.requires.place c.index_mut.ensures.value) in
    let W : World = world_of ms (map f xs) x d in
    let l = c.requires.place in
    subst (λ (rs : List Reducer). Went e (Pulling p (splits_of d.setup), W) (Pulling (p + 1) 0, world_of ms rs x b)) (sym (map-set f xs p z ∙ ap (slice_set (map f xs) p) c.finish.ensures.same))
    (c.calls_are_due.ensures.finishing e p (splits_of d.setup) W (f y) b true at (omega (arith, l, length-map xs f)) (not_below (splits_of d.setup) (splits_of d.setup) (omega arith)) c.in-Ok.ensures.runs)

pub returns-in-Err-clause-went : goal.returns-in-Err-clause-went
returns-in-Err-clause-went g c = λ ms x.
    let E = g.E.Reach in let e = E.exact in let f = g.D.Taker.reducer in let xs = c.args.reducers.now.items in let p = c.args.p in let d = E.deeds c.args.reach.now in let b = E.deeds c.finish.new.reach in let y = c.index_mut.result.now in let z = c.finish.new.self in
    let at = map-at f xs p y (stands_at xs p y y _ c.requires.place c.index_mut.ensures.value) in
    let W : World = world_of ms (map f xs) x d in
    let l = c.requires.place in
    subst (λ (rs : List Reducer). Went e (Pulling p (splits_of d.setup), W) (Halted, world_of ms rs x b)) (sym (map-set f xs p z ∙ ap (slice_set (map f xs) p) c.finish.ensures.same))
    (c.calls_are_due.ensures.finishing e p (splits_of d.setup) W (f y) b false at (omega (arith, l, length-map xs f)) (not_below (splits_of d.setup) (splits_of d.setup) (omega arith)) c.in-Err.ensures.runs)
