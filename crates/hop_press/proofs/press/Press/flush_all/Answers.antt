use Rattle.std.proofs.Common.{◌≡◌, ◌<◌, ◌∙◌, Bool, false, sym, length, subst, arith}
use Rattle.std.specs.Prelude.{is_ok}
use Rattle.hop_vault.specs.Rows.{Table}
use Rattle.hop_machine.specs.step.Steps.{Runs}
use Rattle.hop_machine.specs.actors.MapperTurns.{flush, each_lane}
use Rattle.hop_inner.specs.Setups.{parts}
use Rattle.hop_press.specs.Held.{said_lanes}
use Rattle.hop_press.specs.Fits.{HeldFits}
use Rattle.hop_press.proofs.LaneLaws.{not_ok}
use Rattle.hop_press.proofs.AllLanes.{between_may, between_goes_on, between_stops, between_ends}
use Rattle.hop_press.proofs.VaultLaws.{same_both}
use Rattle.hop_press.proofs.press.Press.flush_all.Goals as goal

pub flush-requires-clause-safe : goal.flush-requires-clause-safe
flush-requires-clause-safe g c =
    let E = g.E.Reach in let now = E.deeds c.loop-p.reach in let i = c.loop-p.invariant in
    let lt : c.loop-p.p < length c.loop-p.self = omega (arith, c.loop-p-test.true, i.end, i.at.len) in
    between_may parts E.exact (flush c.args.w) c.args.self.now (E.deeds c.args.reach.now) c.loop-p.p c.loop-p.self now i.at lt

pub loop-p-preserved : goal.loop-p-preserved
loop-p-preserved g c =
    let E = g.E.Reach in let N = g.N.RunName in let K = g.K.Knowing in
    let now = E.deeds c.loop-p.reach in let b = E.deeds c.flush.new.reach in let i = c.loop-p.invariant in
    let lt : c.loop-p.p < length c.loop-p.self = omega (arith, c.loop-p-test.true, i.end, i.at.len) in
    let ensures = c.in_ok-flush.ensures in
    record {
      end = i.end;
      at = between_goes_on parts E.exact (flush c.args.w) c.args.self.now (E.deeds c.args.reach.now) c.loop-p.p c.loop-p.self now i.at lt c.flush.new.self ensures.only b ensures.runs;
      ready = ensures.ready;
      fits = subst (λ (t : Table). HeldFits N.job N.records N.settings N.tells t K.knows K.board b.ends.board c.flush.new.self) (ensures.rows ∙ i.same.rows) ensures.fits;
      same = same_both g.V.Folder.seen c.args.vault.now c.loop-p.vault c.flush.new.vault i.same record { rows = ensures.rows; worker = ensures.worker; read = ensures.left; gets = ensures.no_fault };
    }

pub returns-in_err-flush-clause-runs : goal.returns-in_err-flush-clause-runs
returns-in_err-flush-clause-runs g c =
    let E = g.E.Reach in
    let now = E.deeds c.loop-p.reach in let b = E.deeds c.flush.new.reach in let i = c.loop-p.invariant in
    let lt : c.loop-p.p < length c.loop-p.self = omega (arith, c.loop-p-test.true, i.end, i.at.len) in
    let went : is_ok c.from_residual.result ≡ false = not_ok c.from_residual.result c.from_residual.ensures.0 in
    let Stops : Bool → Type 0 = λ z. Runs E.exact (each_lane (flush c.args.w) 0 (said_lanes c.args.self.now)) (E.deeds c.args.reach.now) (record { went = z; held = said_lanes c.flush.new.self }) b in
    subst Stops (sym went)
    (between_stops parts E.exact (flush c.args.w) c.args.self.now (E.deeds c.args.reach.now) c.loop-p.p c.loop-p.self now i.at lt c.flush.new.self c.in_err-flush.ensures.only b c.in_err-flush.ensures.runs)

pub returns-clause-runs : goal.returns-clause-runs
returns-clause-runs g c =
    let E = g.E.Reach in let now = E.deeds c.loop-p.reach in let i = c.loop-p.invariant in
    let all : c.loop-p.p ≡ length c.loop-p.self = omega (arith, c.loop-p-test.false, c.loop-p.auto.p-end, i.end, i.at.len) in
    between_ends parts E.exact (flush c.args.w) c.args.self.now (E.deeds c.args.reach.now) c.loop-p.p c.loop-p.self now i.at all
