use Rattle.hop_machine.proofs.run.CatchingLaws.{now-ready, lag-begins, lag-wants, lag-upto, lag-may, lag-row}
use Rattle.hop_machine.proofs.catching_laws.rows_are_pulled.Goals as goal

pub returns-clause-ready : goal.returns-clause-ready
returns-clause-ready c = now-ready

pub returns-clause-begins : goal.returns-clause-begins
returns-clause-begins c = lag-begins

pub returns-clause-wants : goal.returns-clause-wants
returns-clause-wants c = lag-wants

pub returns-clause-upto : goal.returns-clause-upto
returns-clause-upto c = lag-upto

pub returns-clause-pull : goal.returns-clause-pull
returns-clause-pull c = lag-may

pub returns-clause-row : goal.returns-clause-row
returns-clause-row c = lag-row
