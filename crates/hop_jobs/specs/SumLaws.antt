-- The job that adds up numbers meets the laws.
use Rattle.std.proofs.Common.{arith}
use Rattle.std.specs.Prelude.{◌≢◌, codes}
use Rattle.std.proofs.lemmas.List.Elements.{All-from_recursion}
use Rattle.hop_laws.specs.Laws.{IsName, IsLawful}
use Rattle.hop_jobs.specs.AddingLaws.{sum_combines_well, sum_reduces_alike, sum_writes_lines}
use Rattle.hop_jobs.specs.NumberedLaws.{numbered_emits_well}
use Rattle.hop_jobs.specs.Sum.{sum_meaning}

sum_named : IsName (codes "sum")
sum_named = record {
  some = omega arith;
  no_line_feed = All-from_recursion (λ b. b ≢ 10) (codes "sum") ((λ e. omega (arith, e)), ((λ e. omega (arith, e)), ((λ e. omega (arith, e)), tt)));
  no_space = All-from_recursion (λ b. b ≢ 32) (codes "sum") ((λ e. omega (arith, e)), ((λ e. omega (arith, e)), ((λ e. omega (arith, e)), tt)));
}

pub sum_lawful : IsLawful sum_meaning
sum_lawful = record {
  named = sum_named;
  emits_well = numbered_emits_well;
  combines_well = sum_combines_well;
  reduces_alike = sum_reduces_alike;
  writes_lines = sum_writes_lines;
}
