use Rattle.hop_machine.proofs.play.Worked.{a_backup-traced}
use Rattle.hop_machine.proofs.worked_laws.a_backup_loses.Goals as goal

pub returns : goal.returns
returns c = a_backup-traced
