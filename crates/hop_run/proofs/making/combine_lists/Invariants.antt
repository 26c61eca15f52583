use Rattle.std.proofs.Common.{◌≡◌, map}
use Rattle.hop_run.specs.Scattering.{combined_list}
use Rattle.hop_run.proofs.making.combine_lists.Given as goal

abbrev pub invariant-loop-list : goal.invariant-loop-list
invariant-loop-list g l = l.runs ≡ map (combined_list (g.J.Job.meaning l.fn.job) l.fn.part) l.yielded
