use Rattle.std.proofs.Common.{◌≡◌, sym, ap, ◌∙◌, subst, length, map, List}
use Rattle.std.proofs.lemmas.List.{length-map}
use Rattle.hop_actors.specs.Counting.{Counts}
use Rattle.hop_mapper.specs.Mappers.{mapper_of}
use Rattle.hop_settle.specs.Stops.{CrewStops}
use Rattle.hop_start.specs.Made.{folder_of}
use Rattle.hop_replay.specs.Driven.{Traced}
use Rattle.hop_replay.specs.Folders.{counts_seen, NoneFailed, OnlySpillsPut, Stopped}
use Rattle.hop_replay.specs.Given.{Given}
use Rattle.hop_replay.specs.Replayed.{Ran}
use Rattle.hop_replay.proofs.Naming.{crew-names}
use Rattle.hop_replay.proofs.RunEnds.{ran-so}
use Rattle.hop_replay.proofs.Restoring.{alone, err-more, keeps-telling, ok-both, ok-more, ok-with, only-back, only-first, only-same}
use Rattle.hop_replay.proofs.Snapped.{until-none}
use Rattle.hop_replay.proofs.replaying.replay.Goals as goal

pub returns-in_default-clause-only : goal.returns-in_default-clause-only
returns-in_default-clause-only g c = only-same (map g.V.Folder.seen c.args.folders.now.items)

pub returns-in_default-new_mappers-clause-only : goal.returns-in_default-new_mappers-clause-only
returns-in_default-new_mappers-clause-only g c =
    let seen = g.V.Folder.seen in let olds = c.args.folders.now.items in
    subst (λ (l : List g.row.V.Denot). OnlySpillsPut (record { before = map seen olds; after = map seen l })) (sym c.in_default-new_mappers.ensures.back) (only-same (map seen olds))

pub run_over-replayed-requires-clause-only : goal.run_over-replayed-requires-clause-only
run_over-replayed-requires-clause-only g c =
    let N = g.N.RunName in
    only-first folder_of g.V.Folder.seen N.tells N.spills N.settings.workers c.args.folders.now.items c.requires.folders c.in-Ok-new_mappers.mappers.items c.in-Ok-new_mappers.ensures.folders

pub returns-clause-ran : goal.returns-clause-ran
returns-clause-ran g c =
    let N = g.N.RunName in let seen = g.V.Folder.seen in let olds = c.args.folders.now.items in let ms = c.run_over-replayed.new.mappers.items in
    let G : Given = record { job = N.job; records = N.records; script = N.script; settings = N.settings; turns = c.args.turns.now } in
    let restored = alone c.folders_back.new.folders.items (map folder_of ms) c.new_mappers.new.folders.items c.folders_back.ensures.items c.in-Ok-new_mappers.ensures.emptied in
    let owned = ap (λ (l : List g.row.V.Denot). map counts_seen (map seen l)) c.in-Ok-new_mappers.ensures.folders in
    ok-with c.run_over-replayed.result.end
    (λ end k drove.
    let t : Traced = record { begun = end.begun.items; histories = map (λ h. h.events) end.histories.items } in
    subst (λ (l : List g.row.V.Denot). Ran G N.tells (record { before = map seen olds; after = map seen l }) t end.texts) (sym restored)
    (ran-so (mapper_of N.records N.script N.settings) folder_of seen G N.tells N.spills ms olds t end.texts drove k.0 (k.1 ∙ owned) c.requires.folders))
    (ok-both _ _ c.run_over-replayed.result.end c.run_over-replayed.ensures.spilled c.run_over-replayed.ensures.counts) c.run_over-replayed.ensures.drove

pub returns-clause-only : goal.returns-clause-only
returns-clause-only g c =
    let N = g.N.RunName in let seen = g.V.Folder.seen in let olds = c.args.folders.now.items in let ms = c.run_over-replayed.new.mappers.items in
    let restored = alone c.folders_back.new.folders.items (map folder_of ms) c.new_mappers.new.folders.items c.folders_back.ensures.items c.in-Ok-new_mappers.ensures.emptied in
    let owned = ap (λ (l : List g.row.V.Denot). map counts_seen (map seen l)) c.in-Ok-new_mappers.ensures.folders in
    let before : List Counts = map counts_seen (map seen olds) in
    let after : List Counts = map counts_seen (map seen (map folder_of ms)) in
    subst (λ (l : List g.row.V.Denot). OnlySpillsPut (record { before = map seen olds; after = map seen l })) (sym restored)
    (only-back folder_of seen N.tells N.spills N.settings.workers olds c.requires.folders ms
    (keeps-telling N.job N.records N.script N.settings c.run_over-replayed.result.end before after (counts_seen (g.F.Folder.seen c.args.folder)) (counts_seen (g.F.Folder.seen c.run_over-replayed.result.folder)) (ok-more c.run_over-replayed.result.end (λ e. e ∙ owned) c.run_over-replayed.ensures.counts)
    (err-more c.run_over-replayed.result.end (λ f h. subst (λ (l : List Counts). CrewStops N.job N.records N.script N.settings l after (counts_seen (g.F.Folder.seen c.args.folder)) (counts_seen (g.F.Folder.seen c.run_over-replayed.result.folder)) f) owned h) c.run_over-replayed.ensures.cause)) c.run_over-replayed.ensures.only)

pub returns-clause-none : goal.returns-clause-none
returns-clause-none g c =
    let seen = g.V.Folder.seen in let olds = c.args.folders.now.items in let ms = c.run_over-replayed.new.mappers.items in
    let restored = alone c.folders_back.new.folders.items (map folder_of ms) c.new_mappers.new.folders.items c.folders_back.ensures.items c.in-Ok-new_mappers.ensures.emptied in
    let owned = ap (λ (l : List g.row.V.Denot). map counts_seen (map seen l)) c.in-Ok-new_mappers.ensures.folders in
    ok-more c.run_over-replayed.result.end
    (λ e. subst (λ (l : List g.row.V.Denot). NoneFailed (record { before = map seen olds; after = map seen l })) (sym restored) (c.counts_tell_of_folders.ensures.none (map seen olds) (map seen (map folder_of ms)) (e ∙ owned)))
    c.run_over-replayed.ensures.counts

pub returns-clause-stopped : goal.returns-clause-stopped
returns-clause-stopped g c =
    let N = g.N.RunName in let seen = g.V.Folder.seen in let olds = c.args.folders.now.items in let ms = c.run_over-replayed.new.mappers.items in
    let restored = alone c.folders_back.new.folders.items (map folder_of ms) c.new_mappers.new.folders.items c.folders_back.ensures.items c.in-Ok-new_mappers.ensures.emptied in
    let owned = ap (λ (l : List g.row.V.Denot). map counts_seen (map seen l)) c.in-Ok-new_mappers.ensures.folders in
    let x = counts_seen (g.F.Folder.seen c.args.folder) in let y = counts_seen (g.F.Folder.seen c.run_over-replayed.result.folder) in
    let many : length (map seen olds) ≡ N.settings.workers = length-map olds seen ∙ c.requires.folders.count in
    err-more c.run_over-replayed.result.end
    (λ f h. subst (λ (l : List g.row.V.Denot). Stopped N.settings.workers (record { before = map seen olds; after = map seen l }) f) (sym restored)
    (c.counts_tell_of_folders.ensures.stopped N.settings.workers (map seen olds) (map seen (map folder_of ms)) many f x y N.job N.records N.script N.settings (subst (λ (l : List Counts). CrewStops N.job N.records N.script N.settings l (map counts_seen (map seen (map folder_of ms))) x y f) owned h)))
    c.run_over-replayed.ensures.cause

pub returns-in_default-clause-until : goal.returns-in_default-clause-until
returns-in_default-clause-until g c =
    let N = g.N.RunName in
    until-none (record { job = N.job; records = N.records; script = N.script; settings = N.settings; turns = c.args.turns.now }) g.C.ChainName.later N.tells (g.F.Folder.seen c.args.folder)

pub returns-in_default-new_mappers-clause-until : goal.returns-in_default-new_mappers-clause-until
returns-in_default-new_mappers-clause-until g c =
    let N = g.N.RunName in
    until-none (record { job = N.job; records = N.records; script = N.script; settings = N.settings; turns = c.args.turns.now }) g.C.ChainName.later N.tells (g.F.Folder.seen c.args.folder)

pub returns-clause-named : goal.returns-clause-named
returns-clause-named g c =
    let N = g.N.RunName in let seen = g.V.Folder.seen in let F = g.F.Folder.seen in
    let G : Given = record { job = N.job; records = N.records; script = N.script; settings = N.settings; turns = c.args.turns.now } in
    let before = map counts_seen (map seen (map folder_of c.in-Ok-new_mappers.mappers.items)) in let after = map counts_seen (map seen (map folder_of c.run_over-replayed.new.mappers.items)) in
    err-more c.run_over-replayed.result.end (λ f h. crew-names G before after (counts_seen (F c.args.folder)) (counts_seen (F c.run_over-replayed.result.folder)) f h) c.run_over-replayed.ensures.cause
