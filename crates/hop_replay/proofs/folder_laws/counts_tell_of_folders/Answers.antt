use Rattle.hop_replay.proofs.Counted.{none-failed, crew-stopped}
use Rattle.hop_replay.proofs.folder_laws.counts_tell_of_folders.Goals as goal

pub returns-clause-none : goal.returns-clause-none
returns-clause-none c = none-failed

pub returns-clause-stopped : goal.returns-clause-stopped
returns-clause-stopped c = λ workers before after count f x y job records script settings h. crew-stopped job records script settings workers before after count f x y h
