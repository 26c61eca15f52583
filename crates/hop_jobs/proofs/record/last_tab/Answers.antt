use Rattle.hop_jobs.proofs.Reading.{tab_told}
use Rattle.hop_jobs.proofs.record.last_tab.Goals as goal

pub returns-clause-split : goal.returns-clause-split
returns-clause-split c = tab_told c.args.line.now c.memrchr.result c.memrchr.ensures
