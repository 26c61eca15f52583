use Rattle.std.proofs.Common.{ℕ, ◌≤◌, List, length, arith}
use Rattle.std.proofs.lemmas.List.Elements.{All-from_recursion}
use Rattle.hop_jobs.specs.WcLaws.{wc_lawful}
use Rattle.hop_actor_tests.specs.TwoSplits.{two_records}
use Rattle.hop_actor_tests.proofs.worlds.shelves.Goals as goal

pub new-requires-2-clause-run : goal.new-requires-2-clause-run
new-requires-2-clause-run c = record {
  lawful = wc_lawful;
  short = All-from_recursion (λ (line : List ℕ). length line ≤ 131050) two_records (omega arith, (omega arith, tt));
  limit = omega arith;
}
