use Rattle.hop_machine.proofs.play.Worked.{a_late_failure-traced}
use Rattle.hop_machine.proofs.worked_laws.a_late_failure_is_retried.Goals as goal

pub returns : goal.returns
returns c = a_late_failure-traced
