use Rattle.std.proofs.Common.{◌≡◌, ◌<◌, length, map, slice_set, arith}
use Rattle.std.proofs.lemmas.List.{length-map}
use Rattle.std.proofs.lemmas.Option.{slice_get_within}
use Rattle.hop_actors.specs.Counting.{StoreCause}
use Rattle.hop_settle.specs.Stops.{StoresStop}
use Rattle.hop_settle.proofs.Placing.{at-place, mapped-set, mapped-same, mapped-at, well-set}
use Rattle.hop_settle.proofs.Results.{ok-more, err-more, store-stopped}
use Rattle.hop_settle.proofs.pulling.fetch.Goals as goal

pub returns-clause-same : goal.returns-clause-same
returns-clause-same g c =
    let xs = c.args.mappers.now.items in let w = c.keeper_of-keeper.result.place in let f = g.M.Store.mapper in
    let e = c.keeper_of-keeper.ensures.end in
    let k = c.keeper_of-keeper.ensures.keeper (omega (arith, e, c.requires.some, c.requires.kept)) in
    let inside : w < length xs = (let x = slice_get_within (map f xs) w k.keeper k.here in let n = length-map xs f in omega (arith, x, n)) in
    mapped-same f xs w c.index_mut.result.now c.fetch_back.new.self (at-place f xs w c.index_mut.result.now inside c.index_mut.ensures.value) c.fetch_back.ensures.mapper

pub returns-clause-well : goal.returns-clause-well
returns-clause-well g c = λ board well.
    let xs = c.args.mappers.now.items in let w = c.keeper_of-keeper.result.place in let f = g.M.Store.mapper in
    let e = c.keeper_of-keeper.ensures.end in
    let k = c.keeper_of-keeper.ensures.keeper (omega (arith, e, c.requires.some, c.requires.kept)) in
    let inside : w < length xs = (let x = slice_get_within (map f xs) w k.keeper k.here in let n = length-map xs f in omega (arith, x, n)) in
    well-set g.M.Actor.failed g.M.Actor.fits board xs w c.index_mut.result.now c.fetch_back.new.self (at-place f xs w c.index_mut.result.now inside c.index_mut.ensures.value) c.fetch_back.ensures.failed (c.fetch_back.ensures.fits board) well

pub returns-clause-counts : goal.returns-clause-counts
returns-clause-counts g c =
    let xs = c.args.mappers.now.items in let w = c.keeper_of-keeper.result.place in let f = g.M.Store.mapper in let h = g.M.Actor.counts in
    let e = c.keeper_of-keeper.ensures.end in
    let k = c.keeper_of-keeper.ensures.keeper (omega (arith, e, c.requires.some, c.requires.kept)) in
    let inside : w < length xs = (let x = slice_get_within (map f xs) w k.keeper k.here in let n = length-map xs f in omega (arith, x, n)) in
    ok-more c.fetch_back.result (h c.fetch_back.new.self ≡ h c.index_mut.result.now) (map h (slice_set xs w c.fetch_back.new.self) ≡ map h xs)
    (mapped-same h xs w c.index_mut.result.now c.fetch_back.new.self (at-place f xs w c.index_mut.result.now inside c.index_mut.ensures.value)) c.fetch_back.ensures.answered

pub returns-clause-cause : goal.returns-clause-cause
returns-clause-cause g c =
    let R = g.N.RunName in
    let xs = c.args.mappers.now.items in let w = c.keeper_of-keeper.result.place in let f = g.M.Store.mapper in let h = g.M.Actor.counts in
    let x = c.index_mut.result.now in let y = c.fetch_back.new.self in
    let e = c.keeper_of-keeper.ensures.end in
    let k = c.keeper_of-keeper.ensures.keeper (omega (arith, e, c.requires.some, c.requires.kept)) in
    let inside : w < length xs = (let x = slice_get_within (map f xs) w k.keeper k.here in let n = length-map xs f in omega (arith, x, n)) in
    let at = at-place f xs w x inside c.index_mut.ensures.value in
    err-more c.fetch_back.result (StoreCause R.job R.records R.script R.settings (f x).number (h x) (h y)) (StoresStop R.job R.records R.script R.settings (map h xs) (map h (slice_set xs w y)))
    (λ fault cause. store-stopped R.job R.records R.script R.settings (f x).number w (map h xs) (map h (slice_set xs w y)) (h x) (h y) fault (c.requires.may.number w (f x) (mapped-at f xs w x at)) (mapped-at h xs w x at) (mapped-set h xs w x y at) cause) c.fetch_back.ensures.cause
