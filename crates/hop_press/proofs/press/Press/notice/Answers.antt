use Rattle.std.proofs.Common.{◌≡◌, ◌<◌, refl, ap, sym, length, List, subst}
use Rattle.hop_machine.specs.declared.words.Message.TheVariants.{Notice}
use Rattle.hop_machine.specs.step.Steps.{Ends}
use Rattle.hop_machine.specs.actors.MapperTurns.{offer}
use Rattle.hop_press.specs.Held.{LaneValue, said_lane, lane_at, lane_left}
use Rattle.hop_press.specs.Fits.{LaneFits}
use Rattle.hop_press.proofs.AllLanes.{there}
use Rattle.hop_press.proofs.LanePrograms.{runs_keep_ends}
use Rattle.hop_press.proofs.PressLaws.{fits_moved, fits_set, ready_set, lent}
use Rattle.hop_press.proofs.press.Press.notice.Goals as goal

pub returns-clause-ready : goal.returns-clause-ready
returns-clause-ready g c = ready_set c.self.inside.lanes.items c.args.self.now c.args.p c.offer.new.self c.self.view_is c.requires.lane c.requires.ready c.offer.ensures.ready

pub returns-clause-fits : goal.returns-clause-fits
returns-clause-fits g c = λ table h.
    let E = g.E.Reach in let N = g.N.RunName in let K = g.K.Knowing in
    let p = c.args.p in
    let a = E.deeds c.args.reach.now in let b = E.deeds c.offer.new.reach in
    let ends : b.ends ≡ a.ends = runs_keep_ends E.exact (offer c.args.w (Notice c.args.split c.args.attempt) p (said_lane c.index_mut.result.now)) a b (lane_left c.offer.result (said_lane c.offer.new.self)) c.offer.ensures.runs in
    let others = fits_moved N.job N.records N.settings N.tells K.knows K.board table table a.ends.board b.ends.board c.args.self.now refl (ap (λ (x : Ends). x.board) (sym ends)) h in
    let lt : p < length c.self.inside.lanes.items = subst (λ (ls : List (LaneValue _)). p < length ls) (sym c.self.view_is) c.requires.lane in
    let lane : lane_at c.args.self.now p ≡ c.index_mut.result.now = lent c.self.inside.lanes.items c.args.self.now p c.index_mut.result.now c.self.view_is c.requires.lane (there c.self.inside.lanes.items p c.index_mut.result.now lt c.index_mut.ensures.value) in
    let here = subst (λ (l : LaneValue _). LaneFits N.job N.records N.settings N.tells table K.knows K.board a.ends.board p l) lane (h p) in
    fits_set N.job N.records N.settings N.tells K.knows K.board table b.ends.board c.self.inside.lanes.items c.args.self.now p c.offer.new.self c.self.view_is c.requires.lane others (c.offer.ensures.fits table here c.requires.fits)
