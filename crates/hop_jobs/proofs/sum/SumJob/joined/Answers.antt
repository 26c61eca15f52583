use Rattle.std.proofs.Common.{arith}
use Rattle.hop_jobs.specs.AddingLaws.{sum_joins}
use Rattle.hop_jobs.proofs.sum.SumJob.joined.Goals as goal

pub returns : goal.returns
returns c = sum_joins c.args.a c.args.b c.saturating_add.result (omega (arith, c.saturating_add.ensures))
