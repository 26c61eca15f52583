use Rattle.std.proofs.Common.{inl, inr, refl, sym, ◌∙◌, subst, List}
use Rattle.hop_actors.specs.Counting.{Counts}
use Rattle.hop_settle.specs.Stops.{CrewStops}
use Rattle.hop_start.specs.Made.{folder_of}
use Rattle.hop_replay.specs.Folders.{counts_seen}
use Rattle.hop_replay.proofs.Restoring.{err-more, map-three, ok-more}
use Rattle.hop_replay.proofs.Snapped.{until-none}
use Rattle.hop_replay.proofs.replaying.run_over.Goals as goal

pub run_with_snapshots-requires-clause-well : goal.run_with_snapshots-requires-clause-well
run_with_snapshots-requires-clause-well g c = λ k m e. let f = c.requires.fresh k m e in (f.well, f.fits _)

pub returns-clause-counts : goal.returns-clause-counts
returns-clause-counts g c =
    let seen = g.V.Folder.seen in let olds = c.args.mappers.now.items in let news = c.run_with_snapshots.new.mappers.items in
    ok-more c.run_with_snapshots.result.end (λ same. map-three counts_seen seen folder_of news ∙ same ∙ sym (map-three counts_seen seen folder_of olds)) c.run_with_snapshots.ensures.counts

pub returns-clause-cause : goal.returns-clause-cause
returns-clause-cause g c =
    let N = g.N.RunName in let seen = g.V.Folder.seen in let olds = c.args.mappers.now.items in let news = c.run_with_snapshots.new.mappers.items in
    err-more c.run_with_snapshots.result.end
    (λ f stop.
    subst (λ (k : List Counts × List Counts). CrewStops N.job N.records N.script N.settings k.0 k.1 (counts_seen (g.F.Folder.seen c.args.folder)) (counts_seen (g.F.Folder.seen c.run_with_snapshots.result.folder)) f) (λ i. (sym (map-three counts_seen seen folder_of olds) i, sym (map-three counts_seen seen folder_of news) i)) stop)
    c.run_with_snapshots.ensures.cause

pub returns-in_default-clause-until : goal.returns-in_default-clause-until
returns-in_default-clause-until g c =
    let N = g.N.RunName in
    until-none (record { job = N.job; records = N.records; script = N.script; settings = N.settings; turns = c.args.turns.now }) g.C.ChainName.later N.tells (g.F.Folder.seen c.args.folder)

pub returns-in_default-clause-cause : goal.returns-in_default-clause-cause
returns-in_default-clause-cause g c = inl (inr (refl, refl), refl)
