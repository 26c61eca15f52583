use Rattle.hop_ending.proofs.FittingPlaces.{start_reached}
use Rattle.hop_ending.proofs.reach_laws.written_cuts_reached.Goals as goal

pub returns : goal.returns
returns c = start_reached
