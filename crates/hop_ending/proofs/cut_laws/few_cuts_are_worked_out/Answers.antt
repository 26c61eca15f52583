use Rattle.hop_ending.proofs.WorkedCuts.{half_cuts, again_cuts, all_cuts, empty_cuts, no_splits_cuts}
use Rattle.hop_ending.proofs.cut_laws.few_cuts_are_worked_out.Goals as goal

pub returns-clause-none : goal.returns-clause-none
returns-clause-none c = empty_cuts

pub returns-clause-two : goal.returns-clause-two
returns-clause-two c = half_cuts

pub returns-clause-again : goal.returns-clause-again
returns-clause-again c = again_cuts

pub returns-clause-third : goal.returns-clause-third
returns-clause-third c = all_cuts

pub returns-clause-no_splits : goal.returns-clause-no_splits
returns-clause-no_splits c = no_splits_cuts
