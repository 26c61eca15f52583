use Rattle.hop_tests.proofs.SampleLaws.{sample_run}
use Rattle.hop_tests.proofs.shelf.empty.Goals as goal

pub new-requires-clause-run : goal.new-requires-clause-run
new-requires-clause-run c = sample_run
