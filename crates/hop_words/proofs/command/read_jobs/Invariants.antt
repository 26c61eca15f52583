use Rattle.std.proofs.Common.{◌≡◌, length, map, drop}
use Rattle.hop_jobs.specs.Known.{known_meaning}
use Rattle.hop_words.specs.Options.{jobs_named}
use Rattle.hop_words.proofs.ChainLaws.{with_jobs}
use Rattle.hop_words.proofs.command.read_jobs.Given as goal

-- the jobs so far, and what the words behind them name
abbrev pub invariant-loop-word : goal.invariant-loop-word
invariant-loop-word l = record {
  count : length l.jobs ≡ l.word-index;
  told : jobs_named l.k (map (λ w. w.now) l.words) ≡ with_jobs (map known_meaning l.jobs) (jobs_named l.k (map (λ w. w.now) (drop l.word-index l.words)));
}
