use Rattle.std.proofs.Common.{◌-◌, length}
use Rattle.hop_records.proofs.EndsLemmas.{Reached}
use Rattle.hop_records.proofs.ends.ends_of.Given as goal

abbrev pub invariant-loop-start : goal.invariant-loop-start
invariant-loop-start l = Reached l.bytes l.ends.items l.start

abbrev pub decreases-loop-start : goal.decreases-loop-start
decreases-loop-start l = length l.bytes - l.start
