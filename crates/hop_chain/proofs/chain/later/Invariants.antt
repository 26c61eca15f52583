use Rattle.std.proofs.Common.{◌≡◌, ◌+◌, ◌*◌, ◌++◌, map, drop}
use Rattle.hop_jobs.specs.Known.{known_meaning}
use Rattle.hop_chain.specs.Chain.{HasShortRecords, chained_texts, last_texts, later_texts}
use Rattle.hop_chain.proofs.chain.later.Given as goal

-- the jobs so far, and those that are left over the texts of the last of them, whose records grew by 21 bytes at most with each
abbrev pub invariant-loop-job : goal.invariant-loop-job
invariant-loop-job l = record {
  told : chained_texts (map known_meaning l.jobs) l.texts l.r ≡ l.all.items ++ later_texts (map known_meaning (drop l.job-index l.others)) (last_texts l.texts l.all.items) l.r;
  short : HasShortRecords (65577 + 21 * l.job-index) (last_texts l.texts l.all.items);
}
