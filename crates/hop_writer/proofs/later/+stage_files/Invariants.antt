use Rattle.std.proofs.Common.{length}
use Rattle.hop_writer.proofs.later.+stage_files.Given as goal

abbrev pub decreases-stage_files : goal.decreases-stage_files
decreases-stage_files l = length l.bodies.now
