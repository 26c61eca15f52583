use Rattle.hop_machine.proofs.play.Worked.{a_restart-traced}
use Rattle.hop_machine.proofs.worked_laws.a_restart_is_pulled.Goals as goal

pub returns : goal.returns
returns c = a_restart-traced
