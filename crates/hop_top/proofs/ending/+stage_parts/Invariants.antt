use Rattle.std.proofs.Common.{length}
use Rattle.hop_top.proofs.ending.+stage_parts.Given as goal

abbrev pub decreases-stage_parts : goal.decreases-stage_parts
decreases-stage_parts l = length l.texts.now
