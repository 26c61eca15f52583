use Rattle.hop_machine.proofs.play.Worked.{a_failed_attempt-traced, a_failed_attempt_committed-traced}
use Rattle.hop_machine.proofs.worked_laws.a_failed_attempt_is_retried.Goals as goal

pub returns-clause-tentative : goal.returns-clause-tentative
returns-clause-tentative c = a_failed_attempt-traced

pub returns-clause-committed : goal.returns-clause-committed
returns-clause-committed c = a_failed_attempt_committed-traced
