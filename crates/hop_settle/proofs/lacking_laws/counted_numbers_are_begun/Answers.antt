use Rattle.hop_settle.proofs.BegunLaws.{counted-begun}
use Rattle.hop_settle.proofs.lacking_laws.counted_numbers_are_begun.Goals as goal

pub returns : goal.returns
returns c = counted-begun
