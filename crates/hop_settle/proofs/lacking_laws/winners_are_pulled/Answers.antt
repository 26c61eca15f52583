use Rattle.hop_settle.proofs.LackLaws.{lacks-begins, lacks-winner, lacks-upto, lacks-may}
use Rattle.hop_settle.proofs.lacking_laws.winners_are_pulled.Goals as goal

pub returns-clause-begins : goal.returns-clause-begins
returns-clause-begins c = lacks-begins

pub returns-clause-winner : goal.returns-clause-winner
returns-clause-winner c = lacks-winner

pub returns-clause-upto : goal.returns-clause-upto
returns-clause-upto c = lacks-upto

pub returns-clause-pull : goal.returns-clause-pull
returns-clause-pull c = lacks-may
