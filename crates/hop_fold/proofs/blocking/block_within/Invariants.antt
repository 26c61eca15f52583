use Rattle.std.proofs.Common.{◌≡◌, ◌++◌, List, ℕ, length}
use Rattle.std.specs.Prelude.{filter}
use Rattle.hop_records.specs.Records.{records_of}
use Rattle.hop_fold.specs.Gathering.{Gathers}
use Rattle.hop_fold.specs.Within.{is_within, records_within}
use Rattle.hop_fold.proofs.blocking.block_within.Given as goal

-- the records so far are gathered but for the long ones, and with those of the rest they are all
abbrev pub invariant-loop-rest : goal.invariant-loop-rest
invariant-loop-rest g l = record {
  same : length l.lists.lists.items ≡ l.fn.r;
  job : l.lists.job.now ≡ l.fn.job;
  gathers : (done : List (List ℕ)) × (Gathers (g.J.Job.meaning l.fn.job) done l.lists.lists.items × (done ++ filter (is_within l.fn.most) (records_of l.rest) ≡ records_within l.fn.most l.texts));
}

abbrev pub decreases-loop-rest : goal.decreases-loop-rest
decreases-loop-rest g l = length l.rest
