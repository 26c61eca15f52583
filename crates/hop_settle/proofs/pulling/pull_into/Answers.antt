use Rattle.std.proofs.Common.{map, None, Some}
use Rattle.hop_settle.specs.Pulled.{records_pull}
use Rattle.hop_settle.proofs.PullLaws.{may-fetch, well-over, pull-fetched}
use Rattle.hop_settle.proofs.pulling.pull_into.Goals as goal

pub fetch-requires-clause-may : goal.fetch-requires-clause-may
fetch-requires-clause-may g c = may-fetch (map g.M.Store.mapper c.args.mappers.now.items) (g.D.Taker.reducer c.args.reducer.now) c.args.part (g.E.Reach.deeds c.args.reach.now) c.args.p c.requires.mappers c.requires.may c.requires.kept

pub returns-in_err-sheets-clause-well : goal.returns-in_err-sheets-clause-well
returns-in_err-sheets-clause-well g c = c.in_err-sheets.ensures.well (g.E.Reach.deeds c.args.reach.now).ends.board c.requires.well

pub returns-in-Ok-clause-runs : goal.returns-in-Ok-clause-runs
returns-in-Ok-clause-runs g c = let E = g.E.Reach in let f = g.D.Taker.reducer in
    pull-fetched E.exact c.args.part (f c.args.reducer.now) (E.deeds c.args.reach.now) (E.deeds c.record_pull.new.reach) (f c.record_pull.new.reducer, Some c.in-Ok.restarted) c.in-Ok.ensures

pub returns-in-Ok-clause-well : goal.returns-in-Ok-clause-well
returns-in-Ok-clause-well g c = let E = g.E.Reach in let f = g.D.Taker.reducer in let M = g.M.Actor in
    well-over M.failed M.fits c.fetch.new.mappers.items E.exact (records_pull c.args.part (f c.args.reducer.now)) (f c.record_pull.new.reducer, Some c.in-Ok.restarted) (E.deeds c.args.reach.now) (E.deeds c.record_pull.new.reach) c.in-Ok.ensures
    (c.in_ok-sheets.ensures.well (E.deeds c.args.reach.now).ends.board c.requires.well)

pub returns-in-Err-clause-runs : goal.returns-in-Err-clause-runs
returns-in-Err-clause-runs g c = let E = g.E.Reach in let f = g.D.Taker.reducer in
    pull-fetched E.exact c.args.part (f c.args.reducer.now) (E.deeds c.args.reach.now) (E.deeds c.record_pull.new.reach) (f c.record_pull.new.reducer, None) c.in-Err.ensures

pub returns-in-Err-clause-well : goal.returns-in-Err-clause-well
returns-in-Err-clause-well g c = let E = g.E.Reach in let f = g.D.Taker.reducer in let M = g.M.Actor in
    well-over M.failed M.fits c.fetch.new.mappers.items E.exact (records_pull c.args.part (f c.args.reducer.now)) (f c.record_pull.new.reducer, None) (E.deeds c.args.reach.now) (E.deeds c.record_pull.new.reach) c.in-Err.ensures
    (c.in_ok-sheets.ensures.well (E.deeds c.args.reach.now).ends.board c.requires.well)
