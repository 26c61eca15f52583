use Rattle.std.proofs.Common.{◌≡◌, map}
use Rattle.hop_laws.specs.Groups.{red}
use Rattle.hop_fold.proofs.lists.reduce_all.Given as goal

abbrev pub invariant-loop-list : goal.invariant-loop-list
invariant-loop-list g l = l.texts ≡ map (red (g.J.Job.meaning l.fn.job).reduced) l.yielded
