use Rattle.std.proofs.Common.{◌≡◌, length, take}
use Rattle.hop_fold.specs.Gathering.{Gathers}
use Rattle.hop_fold.proofs.blocking.block.Given as goal

abbrev pub invariant-loop-k : goal.invariant-loop-k
invariant-loop-k g l = record {
  same : length l.lists.lists.items ≡ l.fn.r;
  job : l.lists.job.now ≡ l.fn.job;
  gathers : Gathers (g.J.Job.meaning l.fn.job) (take l.k l.book.records) l.lists.lists.items;
}
