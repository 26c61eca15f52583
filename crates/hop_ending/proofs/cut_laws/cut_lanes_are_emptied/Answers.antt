use Rattle.hop_ending.proofs.CutHistories.{run_emptied}
use Rattle.hop_ending.proofs.CutMeets.{met_emptied}
use Rattle.hop_ending.proofs.cut_laws.cut_lanes_are_emptied.Goals as goal

pub returns-clause-exact : goal.returns-clause-exact
returns-clause-exact c = run_emptied

pub returns-clause-met : goal.returns-clause-met
returns-clause-met c = met_emptied
