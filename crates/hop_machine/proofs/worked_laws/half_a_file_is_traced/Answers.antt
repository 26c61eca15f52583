use Rattle.hop_machine.proofs.play.Worked.{half_a_file-traced}
use Rattle.hop_machine.proofs.worked_laws.half_a_file_is_traced.Goals as goal

pub returns : goal.returns
returns c = half_a_file-traced
