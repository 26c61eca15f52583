use Rattle.hop_replay.proofs.Delays.{short_delay}
use Rattle.hop_replay.proofs.script_laws.delays_are_short.Goals as goal

pub returns : goal.returns
returns c = short_delay
