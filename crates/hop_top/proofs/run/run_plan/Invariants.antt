use Rattle.std.proofs.Common.{map}
use Rattle.hop_jobs.specs.Known.{known_meaning}
use Rattle.hop_ports.specs.Views.{FolderView}
use Rattle.hop_words.specs.Options.{settings_of}
use Rattle.hop_top.specs.Spilling.{all_tell}
use Rattle.hop_top.proofs.run.run_plan.Given as goal

-- what the run is named by
abbrev pub ghosts-replay-N-RunName : goal.ghosts-replay-N-RunName
ghosts-replay-N-RunName g a = record {
  job = known_meaning a.job.now;
  records = a.book.now.records;
  script = a.script.now;
  settings = settings_of a.settings.now;
  tells = all_tell a.settings.now.workers (map g.V.Folder.seen a.folders.now.items);
  folder = (g.F.Folder.seen a.folder).held;
  spills = map (λ (s : FolderView). s.held) (map g.V.Folder.seen a.folders.now.items);
}

-- and its later jobs
abbrev pub ghosts-replay-C-ChainName : goal.ghosts-replay-C-ChainName
ghosts-replay-C-ChainName g a = record { later = map known_meaning a.later.items }
