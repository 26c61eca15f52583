use Rattle.std.proofs.Common.{◌-◌}
use Rattle.hop_cut.proofs.HeadLaws.{IsReadUpto}
use Rattle.hop_cut.proofs.head.split_lines.Given as goal

abbrev pub invariant-loop-rest : goal.invariant-loop-rest
invariant-loop-rest l = IsReadUpto l.text l.i l.declared l.rest

abbrev pub decreases-loop-rest : goal.decreases-loop-rest
decreases-loop-rest l = 1024 - l.i
