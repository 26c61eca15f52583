use Rattle.hop_ending.proofs.CutPuts.{start_put, start_follow}
use Rattle.hop_ending.proofs.cut_laws.cuts_start.Goals as goal

pub returns-clause-put : goal.returns-clause-put
returns-clause-put c = start_put

pub returns-clause-follow : goal.returns-clause-follow
returns-clause-follow c = start_follow
