use Rattle.hop_machine.proofs.reducer.AllSafe.{writer_safe}
use Rattle.hop_machine.proofs.writer_laws.writer_is_safe.Goals as goal

pub returns : goal.returns
returns c = writer_safe
