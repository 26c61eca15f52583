use Rattle.hop_ending.proofs.Spent.{start_doomed, spent_doomed}
use Rattle.hop_ending.proofs.spent_laws.spent_runs_are_doomed.Goals as goal

pub returns-clause-start : goal.returns-clause-start
returns-clause-start c = start_doomed

pub returns-clause-home : goal.returns-clause-home
returns-clause-home c = spent_doomed
