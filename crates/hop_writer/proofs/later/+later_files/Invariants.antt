use Rattle.std.proofs.Common.{length}
use Rattle.hop_writer.proofs.later.+later_files.Given as goal

abbrev pub decreases-later_files : goal.decreases-later_files
decreases-later_files l = length l.jobs.now
