use Rattle.std.proofs.Common.{◌≡◌, ap, sym}
use Rattle.hop_machine.specs.step.Steps.{Ends}
use Rattle.hop_machine.specs.actors.MapperTurns.{flush}
use Rattle.hop_press.specs.Held.{said_lane, lane_left}
use Rattle.hop_press.proofs.LanePrograms.{runs_keep_ends}
use Rattle.hop_press.proofs.PressLaws.{fits_moved, fits_set}
use Rattle.hop_press.proofs.press.Press.flush.Goals as goal

pub returns-clause-fits : goal.returns-clause-fits
returns-clause-fits g c =
    let E = g.E.Reach in let N = g.N.RunName in let K = g.K.Knowing in
    let a = E.deeds c.args.reach.now in let b = E.deeds c.flush.new.reach in
    let ends : b.ends ≡ a.ends = runs_keep_ends E.exact (flush c.args.w c.args.p (said_lane c.index_mut.result.now)) a b (lane_left c.flush.result (said_lane c.flush.new.self)) c.flush.ensures.runs in
    let others = fits_moved N.job N.records N.settings N.tells K.knows K.board c.args.vault.now.rows c.flush.new.vault.rows a.ends.board b.ends.board c.args.self.now (sym c.flush.ensures.rows) (ap (λ (x : Ends). x.board) (sym ends)) c.requires.fits in
    fits_set N.job N.records N.settings N.tells K.knows K.board c.flush.new.vault.rows b.ends.board c.self.inside.lanes.items c.args.self.now c.args.p c.flush.new.self c.self.view_is c.requires.lane others c.flush.ensures.fits
