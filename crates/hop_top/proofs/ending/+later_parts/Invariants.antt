use Rattle.std.proofs.Common.{length}
use Rattle.hop_top.proofs.ending.+later_parts.Given as goal

abbrev pub decreases-later_parts : goal.decreases-later_parts
decreases-later_parts l = length l.all.now
