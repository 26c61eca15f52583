use Rattle.std.proofs.Common.{◌≡◌, ◌+◌, ◌*◌, length, Some, refl, sym, ap}
use Rattle.std.specs.List.{slice_get}
use Rattle.std.proofs.lemmas.Option.{slice_get_read}
use Rattle.hop_inner.specs.Messages.{said}
use Rattle.hop_crew.specs.PlainWorlds.{grid_get, taken_at}
use Rattle.hop_crew.proofs.Theres.{place_within, place_is, place_key}
use Rattle.hop_crew.proofs.plain_world.PlainWorldShelfReach.input.Goals as goal

pub returns : goal.returns
returns g c =
    let s = c.args.self.now in let w = c.args.w in let p = c.args.p in let l = c.index_mut.result.now in let items = s.lanes.items in let at = w * s.reducers + p in
    let here : slice_get items at ≡ Some l = slice_get_read items (length items) at l refl (place_within items s.workers s.reducers w p s.board.name c.requires) c.index_mut.ensures.value in
    let is : grid_get items s.workers s.reducers w p ≡ Some l = place_is items s.workers s.reducers w p s.board.name c.requires l here in
    ((refl, λ _. refl), record { lends = tt; end = is; key = place_key items s.workers s.reducers w p s.board.name c.requires l is; taken = ap (λ r. (taken_at said r).taken) (sym is) })
