use Rattle.hop_ending.proofs.CutHistories.{puts_on, follows_on}
use Rattle.hop_ending.proofs.cut_laws.cuts_go_on.Goals as goal

pub returns-clause-put : goal.returns-clause-put
returns-clause-put c = puts_on

pub returns-clause-follow : goal.returns-clause-follow
returns-clause-follow c = follows_on
