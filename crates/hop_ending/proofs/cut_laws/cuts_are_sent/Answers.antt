use Rattle.hop_ending.proofs.CutHistories.{run_sent, run_took, run_put, run_no_others}
use Rattle.hop_ending.proofs.cut_laws.cuts_are_sent.Goals as goal

pub returns-clause-sent : goal.returns-clause-sent
returns-clause-sent c = run_sent

pub returns-clause-took : goal.returns-clause-took
returns-clause-took c = run_took

pub returns-clause-put : goal.returns-clause-put
returns-clause-put c e from a d put z = run_put e from a d z put

pub returns-clause-others : goal.returns-clause-others
returns-clause-others c e from a d put z = run_no_others e from a d z put
