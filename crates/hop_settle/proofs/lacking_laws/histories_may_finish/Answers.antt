use Rattle.hop_settle.proofs.LackLaws.{may-end}
use Rattle.hop_settle.proofs.lacking_laws.histories_may_finish.Goals as goal

pub returns : goal.returns
returns c = may-end
