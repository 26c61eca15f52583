use Rattle.hop_replay.proofs.Sizes.{is-sized}
use Rattle.hop_replay.proofs.size_laws.runs_are_sized.Goals as goal

pub returns : goal.returns
returns c = is-sized
