use Rattle.std.proofs.Common.{length}
use Rattle.hop_writer.proofs.later.+body_at.Given as goal

abbrev pub decreases-body_at : goal.decreases-body_at
decreases-body_at l = length l.kept.now
