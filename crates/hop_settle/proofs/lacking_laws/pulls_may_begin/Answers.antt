use Rattle.hop_settle.proofs.LackLaws.{may-begin}
use Rattle.hop_settle.proofs.lacking_laws.pulls_may_begin.Goals as goal

pub returns : goal.returns
returns c = may-begin
