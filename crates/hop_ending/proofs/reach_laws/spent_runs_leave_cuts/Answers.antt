use Rattle.hop_ending.proofs.SpentCuts.{spent_cuts, spent_others}
use Rattle.hop_ending.proofs.reach_laws.spent_runs_leave_cuts.Goals as goal

pub returns-clause-each : goal.returns-clause-each
returns-clause-each c = spent_cuts

pub returns-clause-others : goal.returns-clause-others
returns-clause-others c = spent_others
