use Rattle.hop_settle.proofs.Bounds.{enough_turns}
use Rattle.hop_settle.proofs.lacking_laws.turns_are_enough.Goals as goal

pub returns : goal.returns
returns c = enough_turns
