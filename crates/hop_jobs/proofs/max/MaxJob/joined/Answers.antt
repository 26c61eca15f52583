use Rattle.hop_jobs.specs.MaxLaws.{max_joins}
use Rattle.hop_jobs.proofs.max.MaxJob.joined.Goals as goal

pub returns : goal.returns
returns c = max_joins c.args._a c.args.b c.requires
