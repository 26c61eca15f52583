use Rattle.hop_machine.proofs.run.Starting.{starts_there, new_there}
use Rattle.hop_machine.proofs.run_laws.runs_start.Goals as goal

pub returns-clause-start : goal.returns-clause-start
returns-clause-start c = starts_there

pub returns-clause-new : goal.returns-clause-new
returns-clause-new c = new_there
