use Rattle.std.proofs.Common.{◌≡◌, ◌<◌, ◌∙◌, Bool, true, false, sym, length, subst, arith}
use Rattle.std.specs.Prelude.{is_ok}
use Rattle.hop_machine.specs.declared.words.Message.TheVariants.{Notice}
use Rattle.hop_machine.specs.step.Steps.{Deeds, Runs}
use Rattle.hop_machine.specs.actors.MapperTurns.{offer, each_lane}
use Rattle.hop_machine.proofs.step.Told.{Runs-grows, grows_both}
use Rattle.hop_inner.specs.Setups.{parts}
use Rattle.hop_press.specs.Held.{said_lane, said_lanes, lane_at}
use Rattle.hop_press.specs.Fits.{HeldFits}
use Rattle.hop_press.proofs.LaneLaws.{not_ok}
use Rattle.hop_press.proofs.LanePrograms.{runs_keep_ends}
use Rattle.hop_press.proofs.AllLanes.{between_goes_on, between_stops, between_ends}
use Rattle.hop_press.proofs.press.Press.notice_all.Goals as goal

pub loop-p-preserved : goal.loop-p-preserved
loop-p-preserved g c =
    let E = g.E.Reach in let N = g.N.RunName in let K = g.K.Knowing in
    let f = offer c.args.w (Notice c.args.split c.args.attempt) in
    let start = E.deeds c.args.reach.now in
    let now = E.deeds c.loop-p.reach in let b = E.deeds c.notice.new.reach in let i = c.loop-p.invariant in
    let lt : c.loop-p.p < length c.loop-p.self = omega (arith, c.loop-p-test.true, i.end, i.at.len) in
    let same : E.deeds c.split_seat_on-known.new.reach ≡ now = c.split_seat_on-known.ensures.same in
    let ensures = c.in_ok-notice.ensures in
    let runs = subst (λ (d : Deeds). Runs E.exact (f c.loop-p.p (said_lane (lane_at c.loop-p.self c.loop-p.p))) d (record { went = true; held = said_lane (lane_at c.notice.new.self c.loop-p.p) }) b) same ensures.runs in
    let ends : b.ends ≡ now.ends = runs_keep_ends E.exact (f c.loop-p.p (said_lane (lane_at c.loop-p.self c.loop-p.p))) now b (record { went = true; held = said_lane (lane_at c.notice.new.self c.loop-p.p) }) runs in
    record {
      end = i.end;
      at = between_goes_on parts E.exact f c.args.self.now start c.loop-p.p c.loop-p.self now i.at lt c.notice.new.self ensures.only b runs;
      ready = ensures.ready;
      ends = ends ∙ i.ends;
      grows = grows_both start.told now.told b.told i.grows (Runs-grows E.exact (f c.loop-p.p (said_lane (lane_at c.loop-p.self c.loop-p.p))) now b (record { went = true; held = said_lane (lane_at c.notice.new.self c.loop-p.p) }) runs);
      fits = λ table h. ensures.fits table (subst (λ (d : Deeds). HeldFits N.job N.records N.settings N.tells table K.knows K.board d.ends.board c.loop-p.self) (sym same) (i.fits table h));
    }

pub returns-in_err-notice-clause-runs : goal.returns-in_err-notice-clause-runs
returns-in_err-notice-clause-runs g c =
    let E = g.E.Reach in
    let f = offer c.args.w (Notice c.args.split c.args.attempt) in
    let now = E.deeds c.loop-p.reach in let b = E.deeds c.notice.new.reach in let i = c.loop-p.invariant in
    let lt : c.loop-p.p < length c.loop-p.self = omega (arith, c.loop-p-test.true, i.end, i.at.len) in
    let same : E.deeds c.split_seat_on-known.new.reach ≡ now = c.split_seat_on-known.ensures.same in
    let went : is_ok c.from_residual.result ≡ false = not_ok c.from_residual.result c.from_residual.ensures.0 in
    let runs = subst (λ (d : Deeds). Runs E.exact (f c.loop-p.p (said_lane (lane_at c.loop-p.self c.loop-p.p))) d (record { went = false; held = said_lane (lane_at c.notice.new.self c.loop-p.p) }) b) same c.in_err-notice.ensures.runs in
    let Stops : Bool → Type 0 = λ z. Runs E.exact (each_lane f 0 (said_lanes c.args.self.now)) (E.deeds c.args.reach.now) (record { went = z; held = said_lanes c.notice.new.self }) b in
    subst Stops (sym went)
    (between_stops parts E.exact f c.args.self.now (E.deeds c.args.reach.now) c.loop-p.p c.loop-p.self now i.at lt c.notice.new.self c.in_err-notice.ensures.only b runs)

pub returns-in_err-notice-clause-fits : goal.returns-in_err-notice-clause-fits
returns-in_err-notice-clause-fits g c = λ table h.
    let E = g.E.Reach in let N = g.N.RunName in let K = g.K.Knowing in
    let same : E.deeds c.split_seat_on-known.new.reach ≡ E.deeds c.loop-p.reach = c.split_seat_on-known.ensures.same in
    c.in_err-notice.ensures.fits table (subst (λ (d : Deeds). HeldFits N.job N.records N.settings N.tells table K.knows K.board d.ends.board c.loop-p.self) (sym same) (c.loop-p.invariant.fits table h))

pub returns-clause-runs : goal.returns-clause-runs
returns-clause-runs g c =
    let E = g.E.Reach in let now = E.deeds c.loop-p.reach in let i = c.loop-p.invariant in
    let all : c.loop-p.p ≡ length c.loop-p.self = omega (arith, c.loop-p-test.false, c.loop-p.auto.p-end, i.end, i.at.len) in
    between_ends parts E.exact (offer c.args.w (Notice c.args.split c.args.attempt)) c.args.self.now (E.deeds c.args.reach.now) c.loop-p.p c.loop-p.self now i.at all
