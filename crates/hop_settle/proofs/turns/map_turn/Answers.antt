use Rattle.hop_actors.specs.Acting.{said_turn}
use Rattle.hop_settle.proofs.TurnLaws.{stands_at, mapped_at, well_at, counted_at, same_board, cause_is}
use Rattle.hop_settle.proofs.turns.map_turn.Goals as goal

pub turn-requires-clause-fits : goal.turn-requires-clause-fits
turn-requires-clause-fits g c =
    let x = c.index_mut.result.now in
    (c.requires.well c.args.w x (stands_at c.args.mappers.now.items c.args.w x x _ c.requires.place c.index_mut.ensures.value)).1

pub returns-clause-mapped : goal.returns-clause-mapped
returns-clause-mapped g c =
    let E = g.E.Reach in
    mapped_at c.args.mappers.now.items c.args.w c.index_mut.result.now c.turn.new.self _ c.requires.place c.index_mut.ensures.value g.M.Store.mapper g.M.Actor.acting g.met.M.Store.is_mapper
    E.exact (E.deeds c.args.reach.now) (E.deeds c.turn.new.reach) (said_turn c.turn.result) c.turn.ensures.turned

pub returns-clause-well : goal.returns-clause-well
returns-clause-well g c = λ on.
    let E = g.E.Reach in let M = g.M.Actor in let x = c.index_mut.result.now in let y = c.turn.new.self in
    let a = E.deeds c.args.reach.now in let b = E.deeds c.turn.new.reach in
    let z = mapped_at c.args.mappers.now.items c.args.w x y _ c.requires.place c.index_mut.ensures.value g.M.Store.mapper M.acting g.met.M.Store.is_mapper E.exact a b (said_turn c.turn.result) c.turn.ensures.turned in
    well_at c.args.mappers.now.items c.args.w x y _ c.requires.place c.index_mut.ensures.value M.failed M.fits a.ends.board b.ends.board
    (same_board E.exact z.before a b (z.after, said_turn c.turn.result) z.runs) c.requires.well (c.turn.ensures.well on) c.turn.ensures.fits

pub returns-clause-counts : goal.returns-clause-counts
returns-clause-counts g c =
    let R = g.N.RunName in let M = g.M.Actor in let f = g.M.Store.mapper in let x = c.index_mut.result.now in let y = c.turn.new.self in
    let at = stands_at c.args.mappers.now.items c.args.w x y _ c.requires.place c.index_mut.ensures.value in
    counted_at c.args.mappers.now.items c.args.w x y _ c.requires.place c.index_mut.ensures.value R.job R.records R.script R.settings M.counts (f x) (c.requires.may x at).number c.turn.result
    (cause_is R.job R.records R.script R.settings (M.acting x) (f x) (M.counts x) (M.counts y) c.turn.result (g.met.M.Store.is_mapper x) c.turn.ensures.cause)
