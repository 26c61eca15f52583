use Rattle.hop_ending.proofs.CutHistories.{run_cuts_put, run_emptied_put}
use Rattle.hop_ending.proofs.cut_laws.cuts_are_put.Goals as goal

pub returns-clause-exact : goal.returns-clause-exact
returns-clause-exact c = run_cuts_put

pub returns-clause-emptied : goal.returns-clause-emptied
returns-clause-emptied c e from a d put z = run_emptied_put e from a d z put
