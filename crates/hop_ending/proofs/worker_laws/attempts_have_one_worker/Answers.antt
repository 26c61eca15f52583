use Rattle.hop_ending.proofs.Workers.{run_kept, run_came, run_others}
use Rattle.hop_ending.proofs.worker_laws.attempts_have_one_worker.Goals as goal

pub returns-clause-kept : goal.returns-clause-kept
returns-clause-kept c = run_kept

pub returns-clause-came : goal.returns-clause-came
returns-clause-came c = run_came

pub returns-clause-others : goal.returns-clause-others
returns-clause-others c = run_others
