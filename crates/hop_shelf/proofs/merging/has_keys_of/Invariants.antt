use Rattle.std.proofs.Common.{◌-◌, length}
use Rattle.hop_shelf.proofs.merging.has_keys_of.Given as goal

abbrev pub decreases-loop-k : goal.decreases-loop-k
decreases-loop-k l = length l.other.sheet - l.k
