use Rattle.std.proofs.Common.{◌≡◌, map, inl, inr, refl, sym, ap, ◌∙◌, subst}
use Rattle.hop_actors.specs.declared.fault.Fault.{Fault}
use Rattle.hop_inner.specs.Setups.{setup_of}
use Rattle.hop_settle.specs.Stops.{CrewStops}
use Rattle.hop_writer.specs.Writers.{WriterValue}
use Rattle.hop_replay.specs.Driven.{Traced}
use Rattle.hop_replay.specs.Folders.{counts_seen}
use Rattle.hop_replay.specs.Given.{Given}
use Rattle.hop_replay.specs.Snapshots.{Snapped, SnappedUntil}
use Rattle.hop_replay.proofs.ByPlace.{only-by-place}
use Rattle.hop_replay.proofs.Restoring.{err-more, err-with, ok-with}
use Rattle.hop_replay.proofs.Snapped.{snapped-so, start-so, until-none, until-so}
use Rattle.hop_replay.proofs.Starts.{number-at}
use Rattle.hop_replay.proofs.snapping.run_with_snapshots.Goals as goal

pub new-requires-clause-start : goal.new-requires-clause-start
new-requires-clause-start g c = start-so g.N.RunName.folder (g.F.Folder.seen c.args.folder).held c.requires.folder

pub returns-in-Ok-clause-snapped : goal.returns-in-Ok-clause-snapped
returns-in-Ok-clause-snapped g c =
    let N = g.N.RunName in let seen = g.F.Folder.seen in let W : WriterValue g.row.F.Denot = c.run_crew-end.new.writer in
    let G : Given = record { job = N.job; records = N.records; script = N.script; settings = N.settings; turns = c.args.turns.now } in
    let before : c.in-Ok.writer.folder ≡ c.args.folder = ap (λ (w : WriterValue g.row.F.Denot). w.folder) c.in-Ok.ensures.made in
    let same : N.folder ≡ (seen c.in-Ok.writer.folder).held = c.requires.folder ∙ ap (λ (f : g.row.F.Denot). (seen f).held) (sym before) in
    ok-with c.run_crew-end.result
    (λ end counts wrote.
    let t : Traced = record { begun = end.begun.items; histories = map (λ h. h.events) end.histories.items } in
    subst (λ (k : g.row.F.Denot × g.row.F.Denot). Snapped G g.C.ChainName.later N.tells t (seen k.0) (seen k.1)) (λ i. (before i, sym c.into_folder.ensures i))
    (snapped-so G g.C.ChainName.later N.tells t W.failed N.folder (seen c.in-Ok.writer.folder) (seen W.folder) W.writer.writings same c.known.ensures counts wrote))
    c.run_crew-end.ensures.put c.run_crew-end.ensures.wrote

pub returns-in-Ok-clause-until : goal.returns-in-Ok-clause-until
returns-in-Ok-clause-until g c =
    let N = g.N.RunName in let seen = g.F.Folder.seen in let W : WriterValue g.row.F.Denot = c.run_crew-end.new.writer in
    let G : Given = record { job = N.job; records = N.records; script = N.script; settings = N.settings; turns = c.args.turns.now } in
    let before : c.in-Ok.writer.folder ≡ c.args.folder = ap (λ (w : WriterValue g.row.F.Denot). w.folder) c.in-Ok.ensures.made in
    let same : N.folder ≡ (seen c.in-Ok.writer.folder).held = c.requires.folder ∙ ap (λ (f : g.row.F.Denot). (seen f).held) (sym before) in
    err-with c.run_crew-end.result
    (λ f stop wrote.
    subst (λ (k : g.row.F.Denot × g.row.F.Denot). SnappedUntil G g.C.ChainName.later N.tells f (seen k.0) (seen k.1)) (λ i. (before i, sym c.into_folder.ensures i))
    (until-so G g.C.ChainName.later N.tells f W.failed N.folder (seen c.in-Ok.writer.folder) (seen W.folder) W.writer.writings _ _ same c.known.ensures stop wrote))
    c.run_crew-end.ensures.cause c.run_crew-end.ensures.until

pub returns-in-Ok-clause-cause : goal.returns-in-Ok-clause-cause
returns-in-Ok-clause-cause g c =
    let N = g.N.RunName in let seen = g.F.Folder.seen in let k = g.M.Actor.counts in
    let before : c.in-Ok.writer.folder ≡ c.args.folder = ap (λ (w : WriterValue g.row.F.Denot). w.folder) c.in-Ok.ensures.made in
    err-more c.run_crew-end.result
    (λ f stop.
    subst (λ (p : g.row.F.Denot × g.row.F.Denot). CrewStops N.job N.records N.script N.settings (map k c.args.mappers.now.items) (map k c.run_crew-end.new.mappers.items) (counts_seen (seen p.0)) (counts_seen (seen p.1)) f) (λ i. (before i, sym c.into_folder.ensures i)) stop)
    c.run_crew-end.ensures.cause

pub returns-in-Err-clause-until : goal.returns-in-Err-clause-until
returns-in-Err-clause-until g c =
    let N = g.N.RunName in let seen = g.F.Folder.seen in
    let G : Given = record { job = N.job; records = N.records; script = N.script; settings = N.settings; turns = c.args.turns.now } in
    subst (λ (f : g.row.F.Denot). SnappedUntil G g.C.ChainName.later N.tells Rattle.hop_actors.specs.declared.fault.Fault.TheVariants.NoMemory (seen c.args.folder) (seen f)) (sym c.in-Err.ensures.back) (until-none G g.C.ChainName.later N.tells (seen c.args.folder))

pub returns-in-Err-clause-only : goal.returns-in-Err-clause-only
returns-in-Err-clause-only g c =
    let N = g.N.RunName in let k = g.M.Store.mapper in let ms = c.args.mappers.now.items in
    only-by-place k g.M.Store.held N.spills ms (number-at (setup_of N.records N.script N.settings) N.settings.backup (map k ms) c.requires.mappers) c.know_folders.ensures.only

pub returns-in-Err-clause-cause : goal.returns-in-Err-clause-cause
returns-in-Err-clause-cause g c =
    let seen = g.F.Folder.seen in
    inl (inr (refl, refl), ap (λ (f : g.row.F.Denot). counts_seen (seen f)) c.in-Err.ensures.back)
