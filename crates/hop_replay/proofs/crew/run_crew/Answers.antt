use Rattle.std.proofs.Common.{length, map, inl, inr, refl, sym, ap}
use Rattle.std.proofs.lemmas.List.{length-map}
use Rattle.hop_inner.specs.Setups.{setup_of}
use Rattle.hop_replay.proofs.ByPlace.{only-by-place}
use Rattle.hop_replay.proofs.Starts.{turns-fit, started, newly, number-at}
use Rattle.hop_replay.proofs.Wrote.{none-yet}
use Rattle.hop_replay.proofs.crew.run_crew.Goals as goal

pub returns-in_default-clause-only : goal.returns-in_default-clause-only
returns-in_default-clause-only g c =
    let N = g.N.RunName in let k = g.M.Store.mapper in let ms = c.args.mappers.now.items in
    only-by-place k g.M.Store.held N.spills ms (number-at (setup_of N.records N.script N.settings) N.settings.backup (map k ms) c.requires.mappers) c.know_folders.ensures.only

pub returns-in_default-clause-until : goal.returns-in_default-clause-until
returns-in_default-clause-until g c =
    let N = g.N.RunName in
    none-yet (record { job = N.job; records = N.records; script = N.script; settings = N.settings; turns = c.args.turns.now }) (setup_of N.records N.script N.settings) (g.W.SnapshotWriter.writer c.args.writer.now) c.requires.first

pub returns-in_default-clause-cause : goal.returns-in_default-clause-cause
returns-in_default-clause-cause g c = inl (inr (refl, refl), refl)

pub run_to_end-requires-clause-actor : goal.run_to_end-requires-clause-actor
run_to_end-requires-clause-actor g c =
    let N = g.N.RunName in let k = g.M.Store.mapper in let s = setup_of N.records N.script N.settings in
    let ms = c.args.mappers.now.items in let rs = c.in-Ok.reducers.items in let gs = c.new-mergers.result.items in
    turns-fit s N.settings.backup (map k ms) rs c.requires.mappers c.in-Ok.ensures ms rs gs c.args.turns.now (sym (length-map ms k)) refl (ap length c.new-mergers.ensures.items) c.requires.turns

pub run_to_end-requires-clause-start : goal.run_to_end-requires-clause-start
run_to_end-requires-clause-start g c =
    let N = g.N.RunName in let E = g.E.Reach in let k = g.M.Store.mapper in let s = setup_of N.records N.script N.settings in
    let ms = c.args.mappers.now.items in let rs = c.in-Ok.reducers.items in let d = E.deeds c.args.reach.now in
    started s N.settings.backup (map k ms) rs c.requires.mappers c.in-Ok.ensures d (g.W.SnapshotWriter.writer c.args.writer.now) c.requires.first
    (c.new_actors_start.ensures.start s N.settings.backup (map k ms) rs d c.settings_make_a_setup.ensures c.requires.mappers c.in-Ok.ensures c.requires.new)

pub run_to_end-requires-clause-new : goal.run_to_end-requires-clause-new
run_to_end-requires-clause-new g c =
    let N = g.N.RunName in let E = g.E.Reach in let k = g.M.Store.mapper in let s = setup_of N.records N.script N.settings in
    let ms = c.args.mappers.now.items in let rs = c.in-Ok.reducers.items in let d = E.deeds c.args.reach.now in
    newly s N.settings.backup (map k ms) rs c.requires.mappers c.in-Ok.ensures d (g.W.SnapshotWriter.writer c.args.writer.now) c.requires.first
    (c.new_actors_start.ensures.new s N.settings.backup (map k ms) rs d c.settings_make_a_setup.ensures c.requires.mappers c.in-Ok.ensures c.requires.new)
