use Rattle.std.proofs.Common.{Bool, true, false, map, Some, None, refl, sym, ◌∙◌, subst}
use Rattle.hop_machine.specs.step.Setup.{Setup, splits_of}
use Rattle.hop_machine.specs.step.Steps.{Runs}
use Rattle.hop_machine.specs.actors.ReducerTurns.{Reducer, restart_if_due}
use Rattle.hop_machine.specs.play.Play.{kept_rows, catch_up}
use Rattle.hop_actors.specs.Calls.{found}
use Rattle.hop_settle.specs.CaughtUp.{pull_each}
use Rattle.hop_settle.proofs.PullLaws.{well-over}
use Rattle.hop_settle.proofs.RowLaws.{setup-on}
use Rattle.hop_settle.proofs.CatchLaws.{behind_rows, rows-each, catches, catch-begins, not-ok}
use Rattle.hop_settle.proofs.catching.catch_one.Goals as goal

pub returns-in-Ok-true-clause-runs : goal.returns-in-Ok-true-clause-runs
returns-in-Ok-true-clause-runs g c = let E = g.E.Reach in let f = g.M.Store.mapper in let h = g.D.Taker.reducer in
    let ms = map f c.args.mappers.now.items in let a = E.deeds c.args.reach.now in let m = E.deeds c.restart_due.new.reach in
    let s = h c.restart_due.new.self in let r = h c.args.reducer.now in let rows = kept_rows ms a.setup.attempts 0 (splits_of a.setup) in
    catches E.exact rows r (sym c.lagging.ensures ∙ c.if-not-lagging.false) a m m (s, Some true) (s, true)
    (subst (λ (o : Bool). Runs E.exact (restart_if_due r) a (s, Some o) m) c.in-Ok-true.field-0-test c.in-Ok-true.ensures.runs) (refl, refl)

pub returns-in-Ok-true-clause-well : goal.returns-in-Ok-true-clause-well
returns-in-Ok-true-clause-well g c = let E = g.E.Reach in let M = g.M.Actor in let h = g.D.Taker.reducer in
    well-over M.failed M.fits c.args.mappers.now.items E.exact (restart_if_due (h c.args.reducer.now)) (h c.restart_due.new.self, found c.restart_due.result) (E.deeds c.args.reach.now) (E.deeds c.restart_due.new.reach) c.restart_due.ensures.runs c.requires.well

pub returns-in-Err-clause-runs : goal.returns-in-Err-clause-runs
returns-in-Err-clause-runs g c = let E = g.E.Reach in let f = g.M.Store.mapper in let h = g.D.Taker.reducer in
    let ms = map f c.args.mappers.now.items in let a = E.deeds c.args.reach.now in let m = E.deeds c.restart_due.new.reach in
    let s = h c.restart_due.new.self in let r = h c.args.reducer.now in let rows = kept_rows ms a.setup.attempts 0 (splits_of a.setup) in
    catches E.exact rows r (sym c.lagging.ensures ∙ c.if-not-lagging.false) a m m (s, None) (s, false) c.in-Err.ensures.runs (refl, refl)

pub returns-in-Err-clause-well : goal.returns-in-Err-clause-well
returns-in-Err-clause-well g c = let E = g.E.Reach in let M = g.M.Actor in let h = g.D.Taker.reducer in
    well-over M.failed M.fits c.args.mappers.now.items E.exact (restart_if_due (h c.args.reducer.now)) (h c.restart_due.new.self, found c.restart_due.result) (E.deeds c.args.reach.now) (E.deeds c.restart_due.new.reach) c.restart_due.ensures.runs c.requires.well

pub catch_splits-requires-clause-may : goal.catch_splits-requires-clause-may
catch_splits-requires-clause-may g c = let E = g.E.Reach in let f = g.M.Store.mapper in let h = g.D.Taker.reducer in
    let ms = map f c.args.mappers.now.items in let a = E.deeds c.args.reach.now in let m = E.deeds c.restart_due.new.reach in
    let s = h c.restart_due.new.self in let r = h c.args.reducer.now in
    catch-begins E.exact ms c.args.p r s a m c.requires.may (sym c.lagging.ensures ∙ c.if-not-lagging.false)
    (subst (λ (o : Bool). Runs E.exact (restart_if_due r) a (s, Some o) m) c.in-Ok-false.field-0-test c.in-Ok-false.ensures.runs)

pub catch_splits-requires-clause-well : goal.catch_splits-requires-clause-well
catch_splits-requires-clause-well g c = let E = g.E.Reach in let M = g.M.Actor in let h = g.D.Taker.reducer in
    well-over M.failed M.fits c.args.mappers.now.items E.exact (restart_if_due (h c.args.reducer.now)) (h c.restart_due.new.self, found c.restart_due.result) (E.deeds c.args.reach.now) (E.deeds c.restart_due.new.reach) c.restart_due.ensures.runs c.requires.well

pub returns-in_err-catch_splits-clause-runs : goal.returns-in_err-catch_splits-clause-runs
returns-in_err-catch_splits-clause-runs g c = let E = g.E.Reach in let f = g.M.Store.mapper in let h = g.D.Taker.reducer in
    let ms = map f c.args.mappers.now.items in let a = E.deeds c.args.reach.now in let m = E.deeds c.restart_due.new.reach in let b = E.deeds c.catch_splits.new.reach in
    let s = h c.restart_due.new.self in let r = h c.args.reducer.now in let y = h c.catch_splits.new.reducer in let rows = kept_rows ms a.setup.attempts 0 (splits_of a.setup) in
    let run = subst (λ (o : Bool). Runs E.exact (restart_if_due r) a (s, Some o) m) c.in-Ok-false.field-0-test c.in-Ok-false.ensures.runs in
    let level = setup-on E.exact (restart_if_due r) (s, Some false) a m run in
    let pulled = subst (λ (z : Setup). Runs E.exact (pull_each (kept_rows ms z.attempts 0 (splits_of z)) s) m (y, None) b) level c.in_err-catch_splits.ensures.runs in
    subst (λ (ok : Bool). Runs E.exact (catch_up rows r) a (y, ok) b) (sym (not-ok c.from_residual.result c.from_residual.ensures.0))
    (catches E.exact rows r (sym c.lagging.ensures ∙ c.if-not-lagging.false) a m b (s, Some false) (y, false) run (rows-each E.exact rows s m b (y, None) pulled))

pub returns-then-not-branch-clause-runs : goal.returns-then-not-branch-clause-runs
returns-then-not-branch-clause-runs g c = let E = g.E.Reach in let f = g.M.Store.mapper in let h = g.D.Taker.reducer in
    let ms = map f c.args.mappers.now.items in let a = E.deeds c.args.reach.now in let m = E.deeds c.restart_due.new.reach in let b = E.deeds c.catch_splits.new.reach in
    let s = h c.restart_due.new.self in let r = h c.args.reducer.now in let y = h c.catch_splits.new.reducer in let rows = kept_rows ms a.setup.attempts 0 (splits_of a.setup) in
    let run = subst (λ (o : Bool). Runs E.exact (restart_if_due r) a (s, Some o) m) c.in-Ok-false.field-0-test c.in-Ok-false.ensures.runs in
    let level = setup-on E.exact (restart_if_due r) (s, Some false) a m run in
    let pulled = subst (λ (z : Setup × Bool). Runs E.exact (pull_each (kept_rows ms z.0.attempts 0 (splits_of z.0)) s) m (y, Some z.1) b) (λ i. (level i, c.if-not-branch.true i)) c.in_ok-catch_splits.ensures.runs in
    subst (λ (z : Reducer). Runs E.exact (catch_up rows r) a (z, true) b) (sym c.caught_up.ensures)
    (catches E.exact rows r (sym c.lagging.ensures ∙ c.if-not-lagging.false) a m b (s, Some false) (behind_rows (Some false) y) run (rows-each E.exact rows s m b (y, Some false) pulled))

pub returns-else-not-branch-clause-runs : goal.returns-else-not-branch-clause-runs
returns-else-not-branch-clause-runs g c = let E = g.E.Reach in let f = g.M.Store.mapper in let h = g.D.Taker.reducer in
    let ms = map f c.args.mappers.now.items in let a = E.deeds c.args.reach.now in let m = E.deeds c.restart_due.new.reach in let b = E.deeds c.catch_splits.new.reach in
    let s = h c.restart_due.new.self in let r = h c.args.reducer.now in let y = h c.catch_splits.new.reducer in let rows = kept_rows ms a.setup.attempts 0 (splits_of a.setup) in
    let run = subst (λ (o : Bool). Runs E.exact (restart_if_due r) a (s, Some o) m) c.in-Ok-false.field-0-test c.in-Ok-false.ensures.runs in
    let level = setup-on E.exact (restart_if_due r) (s, Some false) a m run in
    let pulled = subst (λ (z : Setup × Bool). Runs E.exact (pull_each (kept_rows ms z.0.attempts 0 (splits_of z.0)) s) m (y, Some z.1) b) (λ i. (level i, c.if-not-branch.false i)) c.in_ok-catch_splits.ensures.runs in
    catches E.exact rows r (sym c.lagging.ensures ∙ c.if-not-lagging.false) a m b (s, Some false) (y, true) run (rows-each E.exact rows s m b (y, Some true) pulled)
